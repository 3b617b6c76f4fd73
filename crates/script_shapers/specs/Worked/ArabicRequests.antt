-- The features of Arabic and their stages, in HarfBuzz's order.
use Rattle.std.specs.Prelude.{◌≡◌, ℕ, None, Some, List, [], ◌∷◌, ◌++◌, map, refl}
use Rattle.shape_common.specs.declared.text_types.Script.{Script}
use Rattle.shape_buffer.specs.declared.interfaces.map_request.MapRequest.{MapRequest}
use Rattle.shape_buffer.specs.declared.interfaces.map_request.MapRequest.TheVariants.{Feature, Pause, PauseUnless}
use Rattle.script_shapers.specs.ArabicRequests.{arabic_requests}

-- a feature with its flags (1 on for the whole text, 2 has a fallback, 8 takes ZWJ as it stands) and its value, or a
-- pause with its number, 0 for none, or a pause that the font does without if it has a feature (9)
abbrev pub Shown : Type 0
Shown = ℕ × ℕ × ℕ

abbrev pub shown : MapRequest → Shown
shown (Feature tag flags value) = (tag.0, flags, value)
shown (Pause None) = (0, 0, 0)
shown (Pause (Some number)) = (0, 0, number)
shown (PauseUnless tag) = (tag.0, 9, 9)

abbrev pub script : ℕ → Script
script tag = record { 0 = record { 0 = tag } }

-- stch, pause 2, ccmp, locl, pause
abbrev pub first : List Shown
first = (0x73746368, 1, 1) ∷ (0, 0, 2) ∷ (0x63636D70, 9, 1) ∷ (0x6C6F636C, 9, 1) ∷ (0, 0, 0) ∷ []

abbrev pub stop : Shown
stop = (0, 0, 0)

-- isol, fina, fin2, fin3, medi, med2, init, each with its pause; the flags of the four that Arabic has fallbacks for
abbrev pub forms : ℕ → List Shown
forms flags =
    (0x69736F6C, flags, 1) ∷ stop ∷ (0x66696E61, flags, 1) ∷ stop ∷ (0x66696E32, 8, 1) ∷ stop ∷ (0x66696E33, 8, 1) ∷ stop
    ∷ (0x6D656469, flags, 1) ∷ stop ∷ (0x6D656432, 8, 1) ∷ stop ∷ (0x696E6974, flags, 1) ∷ stop ∷ []

-- calt, a pause unless the font has rclt, liga, clig, mset
abbrev pub last : List Shown
last = (0x63616C74, 9, 1) ∷ (0x72636C74, 9, 9) ∷ (0x6C696761, 9, 1) ∷ (0x636C6967, 9, 1) ∷ (0x6D736574, 9, 1) ∷ []

abbrev pub rlig : Shown
rlig = (0x726C6967, 11, 1)

pub record WorkedRequests : Type 0 where
  -- Arabic has pause 1 after rlig, Syriac and a text without a script have none
  pub arabic : map shown (arabic_requests (Some (script 0x41726162))) ≡ first ++ forms 10 ++ (rlig ∷ (0, 0, 1) ∷ []) ++ last
  pub syriac : map shown (arabic_requests (Some (script 0x53797263))) ≡ first ++ forms 8 ++ (rlig ∷ []) ++ last
  pub no_script : map shown (arabic_requests None) ≡ first ++ forms 8 ++ (rlig ∷ []) ++ last

pub worked_requests : WorkedRequests
worked_requests = record { arabic = refl; syriac = refl; no_script = refl }
