-- Features and their bits, by hand from the rules of hb-ot-map.
use Rattle.std.specs.Prelude.{◌≡◌, ℕ, ◌^◌, ◌+◌, true, false, List, [], ◌∷◌, Option, Some, None, map, refl}
use Rattle.layout_tables.specs.Worked.Features.{two_features, KERN, LIGA}
use Rattle.layout_map.specs.Chosen.{Chosen}
use Rattle.layout_map.specs.Features.{Allotment, bits_needed, allotted, bits_from, mask_of, shift_of, one_bit_of}
use Rattle.layout_map.specs.declared.settings.Setting.{Setting}
use Rattle.layout_map.specs.declared.features.FeatureMap.{FeatureMap}
use Rattle.layout_map.specs.Worked.Settings.{set_to}

-- a table with the features `kern` and `liga`, of which a language system lists `liga`, and another one requires it; and none
abbrev pub lists_liga : Chosen
lists_liga = record { bytes = two_features; lang_sys = Some 50; substitution = None }

abbrev pub requires_liga : Chosen
requires_liga = record { bytes = two_features; lang_sys = Some 38; substitution = None }

abbrev pub no_table : Chosen
no_table = record { bytes = []; lang_sys = None; substitution = None }

abbrev pub allotted_of : List Setting → Allotment
allotted_of settings = allotted lists_liga no_table settings

-- a feature of GSUB with default flags, by its bits
abbrev pub with_bits : ℕ → Option ℕ → ℕ → ℕ → ℕ → FeatureMap
with_bits tag gsub stage place bits = record {
  tag = tag;
  gsub = gsub;
  gpos = None;
  stage = stage;
  place = place;
  bits = bits;
  needs_fallback = false;
  auto_zwnj = true;
  auto_zwj = true;
  random = false;
  per_syllable = false;
}

-- settings with a fallback, so that no table need have them: one of 8 bits, and one of a value
abbrev pub wide : ℕ → Setting
wide tag = record { tag = tag; flags = 0; is_global = false; has_fallback = true; max_value = 255; default_value = 0; stage = 0 }

abbrev pub narrow : ℕ → ℕ → Setting
narrow tag value = record { tag = tag; flags = 0; is_global = false; has_fallback = true; max_value = value; default_value = 0; stage = 0 }

abbrev pub places : List Setting → List ℕ
places settings = map (λ f. f.place) (allotted_of settings).features

pub record WorkedBits : Type 0 where
  pub plain : bits_needed (set_to 10 1 true 1 1 0) ≡ 0
  pub one_bit : bits_needed (set_to 10 0 false 1 0 0) ≡ 1
  pub global_2 : bits_needed (set_to 10 1 true 2 2 0) ≡ 2
  pub value_3 : bits_needed (set_to 10 0 false 3 0 0) ≡ 2
  pub value_4 : bits_needed (set_to 10 0 false 4 0 0) ≡ 3
  pub value_15 : bits_needed (set_to 10 0 false 15 0 0) ≡ 4
  pub value_31 : bits_needed (set_to 10 0 false 31 0 0) ≡ 5
  pub value_63 : bits_needed (set_to 10 0 false 63 0 0) ≡ 6
  pub value_127 : bits_needed (set_to 10 0 false 127 0 0) ≡ 7
  pub value_128 : bits_needed (set_to 10 0 false 128 0 0) ≡ 8
  pub at_most_8 : bits_needed (set_to 10 0 false 256 0 0) ≡ 8
  pub low : bits_from 0 3 ≡ 7
  pub higher : bits_from 4 2 ≡ 48
  pub mask_from_bit_4 : mask_of 3 ≡ 48
  pub last_bit : mask_of (2 ^ 27) ≡ 2147483648
  pub shift : shift_of (with_bits 10 None 0 2 12) ≡ 6
  pub last_shift : shift_of (with_bits 10 None 0 27 (2 ^ 27)) ≡ 31
  pub value_1 : one_bit_of (with_bits 10 None 0 2 12) ≡ 4
  pub last_value_1 : one_bit_of (with_bits 10 None 0 27 (2 ^ 27)) ≡ 2 ^ 27
  pub value_7 : bits_needed (set_to 10 0 false 7 0 0) ≡ 3
  pub value_8 : bits_needed (set_to 10 0 false 8 0 0) ≡ 4
  pub value_16 : bits_needed (set_to 10 0 false 16 0 0) ≡ 5
  pub value_32 : bits_needed (set_to 10 0 false 32 0 0) ≡ 6
  pub value_64 : bits_needed (set_to 10 0 false 64 0 0) ≡ 7

pub worked_bits : WorkedBits
worked_bits = record {
  plain = refl;
  one_bit = refl;
  global_2 = refl;
  value_3 = refl;
  value_4 = refl;
  value_15 = refl;
  value_31 = refl;
  value_63 = refl;
  value_127 = refl;
  value_128 = refl;
  at_most_8 = refl;
  low = refl;
  higher = refl;
  mask_from_bit_4 = refl;
  last_bit = refl;
  shift = refl;
  last_shift = refl;
  value_1 = refl;
  last_value_1 = refl;
  value_7 = refl;
  value_8 = refl;
  value_16 = refl;
  value_32 = refl;
  value_64 = refl;
}

pub record WorkedAllotment : Type 0 where
  pub shared_bit : (allotted_of (set_to LIGA 1 true 1 1 0 ∷ [])).features ≡ with_bits LIGA (Some 1) 0 27 (2 ^ 27) ∷ []
  pub own_bits : (allotted_of (set_to LIGA 0 false 3 0 2 ∷ [])).features ≡ with_bits LIGA (Some 1) 2 0 3 ∷ []
  pub next_bits : places (narrow 10 3 ∷ narrow 20 1 ∷ narrow 30 1 ∷ []) ≡ 0 ∷ 2 ∷ 3 ∷ []
  pub shared_bit_takes_none : places (set_to LIGA 1 true 1 1 0 ∷ narrow 0x7A7A7A7A 1 ∷ []) ≡ 27 ∷ 0 ∷ []
  pub no_default : (allotted_of (set_to LIGA 0 false 3 0 0 ∷ [])).global ≡ 2 ^ 27
  pub default : (allotted_of (narrow 10 1 ∷ set_to LIGA 1 true 3 2 0 ∷ [])).global ≡ 2 ^ 27 + 4
  -- a default that its bits do not hold is cut
  pub default_cut : (allotted_of (set_to LIGA 1 true 256 257 0 ∷ [])).global ≡ 2 ^ 27 + 1
  pub switched_off : (allotted_of (set_to LIGA 1 true 0 0 0 ∷ [])).features ≡ []
  pub not_listed : (allotted_of (set_to KERN 1 true 1 1 0 ∷ [])).features ≡ []
  -- 16 is F_GLOBAL_SEARCH
  pub searched : (allotted_of (set_to KERN 17 true 1 1 0 ∷ [])).features ≡ with_bits KERN (Some 0) 0 27 (2 ^ 27) ∷ []
  pub listed_first : (allotted requires_liga no_table (set_to LIGA 17 true 1 1 0 ∷ [])).features
      ≡ with_bits LIGA (Some 1) 0 27 (2 ^ 27) ∷ []
  pub in_gpos : map (λ f. f.gpos) (allotted no_table lists_liga (set_to LIGA 1 true 1 1 0 ∷ [])).features ≡ Some 1 ∷ []
  pub fallback : map (λ f. f.needs_fallback) (allotted_of (narrow KERN 1 ∷ [])).features ≡ true ∷ []
  pub found_with_fallback : map (λ f. f.needs_fallback) (allotted_of (narrow LIGA 1 ∷ [])).features ≡ false ∷ []
  -- 27 bits are there for values: 24 and 2 leave one, which the last bit keeps apart
  pub no_room_for_8 : places (wide 10 ∷ wide 20 ∷ wide 30 ∷ wide 40 ∷ []) ≡ 0 ∷ 8 ∷ 16 ∷ []
  pub room_for_2 : places (wide 10 ∷ wide 20 ∷ wide 30 ∷ narrow 40 2 ∷ narrow 50 1 ∷ []) ≡ 0 ∷ 8 ∷ 16 ∷ 24 ∷ []
  pub room_for_the_shared_bit : places (wide 10 ∷ wide 20 ∷ wide 30 ∷ narrow 40 2 ∷ set_to LIGA 1 true 1 1 0 ∷ [])
      ≡ 0 ∷ 8 ∷ 16 ∷ 24 ∷ 27 ∷ []
  -- 4 is F_MANUAL_ZWNJ, 8 F_MANUAL_ZWJ, 32 F_RANDOM, 64 F_PER_SYLLABLE
  pub manual_zwnj : map (λ f. f.auto_zwnj) (allotted_of (set_to LIGA 5 true 1 1 0 ∷ [])).features ≡ false ∷ []
  pub manual_zwj : map (λ f. f.auto_zwj) (allotted_of (set_to LIGA 9 true 1 1 0 ∷ [])).features ≡ false ∷ []
  pub random : map (λ f. f.random) (allotted_of (set_to LIGA 33 true 1 1 0 ∷ [])).features ≡ true ∷ []
  pub per_syllable : map (λ f. f.per_syllable) (allotted_of (set_to LIGA 65 true 1 1 0 ∷ [])).features ≡ true ∷ []
  pub required_in_its_stage : (allotted requires_liga no_table (set_to LIGA 0 false 1 0 2 ∷ [])).required_stage ≡ 2
  pub required_unasked : (allotted requires_liga no_table (set_to KERN 0 false 1 0 2 ∷ [])).required_stage ≡ 0
  pub required_before_it : (allotted requires_liga no_table (set_to 0x7A7A7A7A 0 true 1 0 2 ∷ [])).required_stage ≡ 0
  pub required_switched_off : (allotted requires_liga no_table (set_to LIGA 1 true 0 0 2 ∷ [])).required_stage ≡ 0
  pub searched_in_gpos : map (λ f. f.gpos) (allotted no_table lists_liga (set_to KERN 17 true 1 1 0 ∷ [])).features ≡ Some 0 ∷ []
  -- `GSUB` lists it, so that it isn't searched for in `GPOS`
  pub listed_in_one_table : map (λ f. f.gpos)
      (allotted lists_liga (record lists_liga { lang_sys = None }) (set_to LIGA 17 true 1 1 0 ∷ [])).features ≡ None ∷ []

pub worked_allotment : WorkedAllotment
worked_allotment = record {
  shared_bit = refl;
  own_bits = refl;
  next_bits = refl;
  shared_bit_takes_none = refl;
  no_default = refl;
  default = refl;
  default_cut = refl;
  switched_off = refl;
  not_listed = refl;
  searched = refl;
  listed_first = refl;
  in_gpos = refl;
  fallback = refl;
  found_with_fallback = refl;
  no_room_for_8 = refl;
  room_for_2 = refl;
  room_for_the_shared_bit = refl;
  manual_zwnj = refl;
  manual_zwj = refl;
  random = refl;
  per_syllable = refl;
  required_in_its_stage = refl;
  required_unasked = refl;
  required_before_it = refl;
  required_switched_off = refl;
  searched_in_gpos = refl;
  listed_in_one_table = refl;
}
