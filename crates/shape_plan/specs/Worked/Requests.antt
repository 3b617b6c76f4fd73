-- The requests of planners, computed on small cases whose answers are worked out by hand.
use Rattle.std.specs.Prelude.{◌≡◌, ℕ, true, false, List, [], ◌∷◌, length, Option, Some, None, refl, slice_get, if◌then◌else◌}
use Rattle.std.specs.Option.{option_map_or}
use Rattle.shape_buffer.specs.MapBuilder.{Builder, new_builder, feature, pause}
use Rattle.shape_common.specs.declared.text_types.Direction.{Direction}
use Rattle.shape_common.specs.declared.text_types.Direction.TheVariants.{Invalid, LeftToRight, RightToLeft, TopToBottom, BottomToTop}
use Rattle.shape_common.specs.declared.text_types.Feature.{Feature}
use Rattle.shape_common.specs.declared.text_types.Script.{Script}
use Rattle.shape_buffer.specs.declared.interfaces.map_request.MapRequest.{MapRequest}
use Rattle.shape_plan.specs.Requests.{Collector, requested}
use Rattle.shape_plan.specs.Tags.{tag}

-- a feature by the number of its tag, its flags and its value
abbrev pub ask : ℕ → ℕ → ℕ → MapRequest
ask number flags value = feature (tag number) flags value

abbrev pub stop : MapRequest
stop = pause None

-- what is asked for without hooks, by direction and the user's features
abbrev pub plain : Direction → List Feature → Builder
plain direction features = requested direction None None None features (new_builder None (λ _. None))

-- rvrn, the pause, ltra, ltrm; frac, numr, dnom, rand; trak, Harf, HARF, Buzz; BUZZ, abvm, blwm, ccmp; locl, mark,
-- mkmk, rlig; calt, clig, curs, dist; kern, liga, rclt
abbrev pub left_to_right : List MapRequest
left_to_right =
    ask 0x7276726E 1 1 ∷ stop ∷ ask 0x6C747261 1 1 ∷ ask 0x6C74726D 1 1 ∷
    ask 0x66726163 0 1 ∷ ask 0x6E756D72 0 1 ∷ ask 0x646E6F6D 0 1 ∷ ask 0x72616E64 33 255 ∷
    ask 0x7472616B 3 1 ∷ ask 0x48617266 1 1 ∷ ask 0x48415246 1 1 ∷ ask 0x42757A7A 1 1 ∷
    ask 0x42555A5A 1 1 ∷ ask 0x6162766D 1 1 ∷ ask 0x626C776D 1 1 ∷ ask 0x63636D70 1 1 ∷
    ask 0x6C6F636C 1 1 ∷ ask 0x6D61726B 13 1 ∷ ask 0x6D6B6D6B 13 1 ∷ ask 0x726C6967 1 1 ∷
    ask 0x63616C74 1 1 ∷ ask 0x636C6967 1 1 ∷ ask 0x63757273 1 1 ∷ ask 0x64697374 1 1 ∷
    ask 0x6B65726E 3 1 ∷ ask 0x6C696761 1 1 ∷ ask 0x72636C74 1 1 ∷ []

-- rtla and rtlm in place of ltra and ltrm
abbrev pub right_to_left : List MapRequest
right_to_left =
    ask 0x7276726E 1 1 ∷ stop ∷ ask 0x72746C61 1 1 ∷ ask 0x72746C6D 0 1 ∷
    ask 0x66726163 0 1 ∷ ask 0x6E756D72 0 1 ∷ ask 0x646E6F6D 0 1 ∷ ask 0x72616E64 33 255 ∷
    ask 0x7472616B 3 1 ∷ ask 0x48617266 1 1 ∷ ask 0x48415246 1 1 ∷ ask 0x42757A7A 1 1 ∷
    ask 0x42555A5A 1 1 ∷ ask 0x6162766D 1 1 ∷ ask 0x626C776D 1 1 ∷ ask 0x63636D70 1 1 ∷
    ask 0x6C6F636C 1 1 ∷ ask 0x6D61726B 13 1 ∷ ask 0x6D6B6D6B 13 1 ∷ ask 0x726C6967 1 1 ∷
    ask 0x63616C74 1 1 ∷ ask 0x636C6967 1 1 ∷ ask 0x63757273 1 1 ∷ ask 0x64697374 1 1 ∷
    ask 0x6B65726E 3 1 ∷ ask 0x6C696761 1 1 ∷ ask 0x72636C74 1 1 ∷ []

-- neither; vert in place of the last row
abbrev pub vertical_texts : List MapRequest
vertical_texts =
    ask 0x7276726E 1 1 ∷ stop ∷ ask 0x66726163 0 1 ∷ ask 0x6E756D72 0 1 ∷
    ask 0x646E6F6D 0 1 ∷ ask 0x72616E64 33 255 ∷ ask 0x7472616B 3 1 ∷ ask 0x48617266 1 1 ∷
    ask 0x48415246 1 1 ∷ ask 0x42757A7A 1 1 ∷ ask 0x42555A5A 1 1 ∷ ask 0x6162766D 1 1 ∷
    ask 0x626C776D 1 1 ∷ ask 0x63636D70 1 1 ∷ ask 0x6C6F636C 1 1 ∷ ask 0x6D61726B 13 1 ∷
    ask 0x6D6B6D6B 13 1 ∷ ask 0x726C6967 1 1 ∷ ask 0x76657274 17 1 ∷ []

pub record RequestsOfDirections : Type 0 where
  pub ltr : (plain LeftToRight []).requests ≡ left_to_right
  pub rtl : (plain RightToLeft []).requests ≡ right_to_left
  pub ttb : (plain TopToBottom []).requests ≡ vertical_texts
  pub btt : (plain BottomToTop []).requests ≡ vertical_texts
  pub invalid : (plain Invalid []).requests ≡ vertical_texts
  pub ltr_count : length (plain LeftToRight []).requests ≡ 27
  pub rtl_count : length (plain RightToLeft []).requests ≡ 27
  pub ttb_count : length (plain TopToBottom []).requests ≡ 19
  pub btt_count : length (plain BottomToTop []).requests ≡ 19
  pub simple : (plain LeftToRight []).is_simple ≡ true

pub requests_of_directions : RequestsOfDirections
unfolding requested
requests_of_directions = record {
  ltr = refl;
  rtl = refl;
  ttb = refl;
  btt = refl;
  invalid = refl;
  ltr_count = refl;
  rtl_count = refl;
  ttb_count = refl;
  btt_count = refl;
  simple = refl;
}

-- kern (0x6B65726E) off over the whole text, and liga (0x6C696761) of value 2 over parts of it
abbrev pub kern_off : Feature
kern_off = record { tag = tag 0x6B65726E; value = 0; start = 0; end = 4294967295 }

abbrev pub liga_from : ℕ → ℕ → Feature
liga_from start end = record { tag = tag 0x6C696761; value = 2; start = start; end = end }

pub record RequestsOfUsers : Type 0 where
  pub whole : slice_get (plain LeftToRight (kern_off ∷ [])).requests 27 ≡ Some (ask 0x6B65726E 1 0)
  pub whole_count : length (plain LeftToRight (kern_off ∷ [])).requests ≡ 28
  pub simple : (plain LeftToRight (kern_off ∷ [])).is_simple ≡ false
  pub to_a_place : slice_get (plain LeftToRight (liga_from 0 4294967294 ∷ [])).requests 27 ≡ Some (ask 0x6C696761 0 2)
  pub from_a_place : slice_get (plain LeftToRight (liga_from 1 4294967295 ∷ [])).requests 27 ≡ Some (ask 0x6C696761 0 2)
  pub in_order : slice_get (plain TopToBottom (kern_off ∷ liga_from 1 2 ∷ [])).requests 20 ≡ Some (ask 0x6C696761 0 2)

pub requests_of_users : RequestsOfUsers
unfolding requested
requests_of_users = record { whole = refl; whole_count = refl; simple = refl; to_a_place = refl; from_a_place = refl; in_order = refl }

-- a hook that tells what it sees: how many requests there are, and whether the builder is simple
abbrev pub telling : Collector
telling = Some (λ builder direction script. ask (length builder.requests) (if builder.is_simple then 1 else 0) 7 ∷ [])

-- what is asked for right to left with hooks
abbrev pub hooked_texts : Collector → Collector → List Feature → Builder
hooked_texts collects overrides features = requested RightToLeft None collects overrides features (new_builder None (λ _. None))

abbrev pub script_of : ℕ → Option Script
script_of number = Some (record { 0 = tag number })

abbrev pub number_of_script : Option Script → ℕ
number_of_script script = option_map_or (λ s. s.0.0) script 0

abbrev pub number_of_direction : Direction → ℕ
number_of_direction Invalid = 0
number_of_direction LeftToRight = 1
number_of_direction RightToLeft = 2
number_of_direction TopToBottom = 3
number_of_direction BottomToTop = 4

-- a hook that tells what it is handed: the direction and the script
abbrev pub telling_text : Collector
telling_text = Some (λ builder direction script. ask (number_of_direction direction) (number_of_script script) 7 ∷ [])

-- what is asked for of script 100 with hooks
abbrev pub asked_by : Direction → Collector → Collector → Builder
asked_by direction collects overrides = requested direction (script_of 100) collects overrides [] (new_builder None (λ _. None))

pub record TextsOfHooks : Type 0 where
  pub collects : slice_get (asked_by RightToLeft telling_text None).requests 11 ≡ Some (ask 2 100 7)
  pub overrides : slice_get (asked_by RightToLeft None telling_text).requests 27 ≡ Some (ask 2 100 7)
  pub collects_down : slice_get (asked_by TopToBottom telling_text None).requests 9 ≡ Some (ask 3 100 7)
  pub overrides_down : slice_get (asked_by TopToBottom None telling_text).requests 19 ≡ Some (ask 3 100 7)

pub texts_of_hooks : TextsOfHooks
unfolding requested
texts_of_hooks = record { collects = refl; overrides = refl; collects_down = refl; overrides_down = refl }

pub record RequestsOfHooks : Type 0 where
  pub before_buzz : slice_get (hooked_texts telling None []).requests 11 ≡ Some (ask 11 0 7)
  pub then_buzz : slice_get (hooked_texts telling None []).requests 12 ≡ Some (ask 0x42757A7A 1 1)
  pub not_simple : (hooked_texts telling None []).is_simple ≡ false
  pub last : slice_get (hooked_texts None telling []).requests 27 ≡ Some (ask 27 1 7)
  pub still_simple : (hooked_texts None telling []).is_simple ≡ true
  pub after_users : slice_get (hooked_texts None telling (kern_off ∷ [])).requests 28 ≡ Some (ask 28 0 7)
  pub both : length (hooked_texts telling telling []).requests ≡ 29
  pub begun_anew : (requested RightToLeft None None None [] (record (new_builder None (λ _. None)) { is_simple = false })).is_simple ≡ true

pub requests_of_hooks : RequestsOfHooks
unfolding requested
requests_of_hooks = record {
  before_buzz = refl;
  then_buzz = refl;
  not_simple = refl;
  last = refl;
  still_simple = refl;
  after_users = refl;
  both = refl;
  begun_anew = refl;
}
