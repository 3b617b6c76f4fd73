-- Settings looked up in the tables, and the bits of the mask that each feature gets (HarfBuzz, hb-ot-map.cc, "Allocate bits
-- now"). Bits are counted from bit 4 of a mask: the lower ones are those of the glyph flags.
use Rattle.std.specs.Prelude.{ℕ, ◌+◌, ◌-◌, ◌*◌, ◌^◌, ◌%◌, ◌&&◌, ◌||◌, Bool, List, [], ◌∷◌, ◌++◌, is_some, not, fold, min, nat_eq, nat_lt, if◌then◌else◌}
use Rattle.std.specs.Int.RustNames.{bit_and, bit_or}
use Rattle.shape_common.specs.FlagNames.{F_MANUAL_ZWNJ, F_MANUAL_ZWJ, F_GLOBAL_SEARCH, F_PER_SYLLABLE, F_RANDOM}
use Rattle.layout_tables.specs.Features.{any_feature_of}
use Rattle.layout_map.specs.Settings.{has_flag}
use Rattle.layout_map.specs.Chosen.{Chosen, index_of, required_tag_of}
use Rattle.layout_map.specs.declared.settings.Setting.{Setting}
use Rattle.layout_map.specs.declared.features.FeatureMap.{FeatureMap}
use Rattle.layout_map.specs.declared.features.Indexes.{Indexes}

-- the last bit of a mask is that of all features that are on everywhere
abbrev pub GLOBAL_PLACE : ℕ
GLOBAL_PLACE = 27

abbrev pub GLOBAL_BIT : ℕ
GLOBAL_BIT = 2 ^ 27

-- on everywhere with value 1: no bits of its own
abbrev pub is_plain : Setting → Bool
is_plain s = s.is_global && nat_eq s.max_value 1

-- so many bits hold a value, at most 8
abbrev pub bit_storage : ℕ → ℕ
bit_storage value = if nat_lt value 2 then 1 else (if nat_lt value 4 then 2 else (if nat_lt value 8 then 3 else (if nat_lt value 16 then 4
    else (if nat_lt value 32 then 5 else (if nat_lt value 64 then 6 else (if nat_lt value 128 then 7 else 8))))))

abbrev pub bits_needed : Setting → ℕ
bits_needed s = if is_plain s then 0 else bit_storage s.max_value

-- a feature with value 0 is off, and one that the bits don't hold is left out
abbrev pub has_room : ℕ → Setting → Bool
has_room place s = nat_lt 0 s.max_value && nat_lt (place + bits_needed s) GLOBAL_PLACE

-- the indexes of a feature in both tables: in the language systems; for some, anywhere, if neither lists it
abbrev pub own_indexes : Chosen → Chosen → ℕ → Indexes
own_indexes gsub gpos tag = record { gsub = index_of gsub tag; gpos = index_of gpos tag }

abbrev pub is_found : Indexes → Bool
is_found i = is_some i.gsub || is_some i.gpos

-- whether a language system lists the feature
abbrev pub is_listed : Chosen → Chosen → ℕ → Bool
is_listed gsub gpos tag = is_found (own_indexes gsub gpos tag)

abbrev pub indexes_of : Chosen → Chosen → Setting → Indexes
indexes_of gsub gpos s = if not (is_listed gsub gpos s.tag) && has_flag s.flags F_GLOBAL_SEARCH
    then record { gsub = any_feature_of gsub.bytes s.tag; gpos = any_feature_of gpos.bytes s.tag }
    else own_indexes gsub gpos s.tag

-- a feature of a setting, with the first of its bits and all of them
abbrev pub feature_with : Setting → Indexes → ℕ → ℕ → FeatureMap
feature_with s i place bits = record {
  tag = s.tag;
  gsub = i.gsub;
  gpos = i.gpos;
  stage = s.stage;
  place = place;
  bits = bits;
  needs_fallback = not (is_found i);
  auto_zwnj = not (has_flag s.flags F_MANUAL_ZWNJ);
  auto_zwj = not (has_flag s.flags F_MANUAL_ZWJ);
  random = has_flag s.flags F_RANDOM;
  per_syllable = has_flag s.flags F_PER_SYLLABLE;
}

-- so many bits from `place` on
abbrev pub bits_from : ℕ → ℕ → ℕ
bits_from place count = (2 ^ count - 1) * 2 ^ place

-- the features so far, the first free bit, the bits of values that are on everywhere, and the stage of the required feature
pub record Allotment : Type 0 where
  pub features : List FeatureMap
  pub place : ℕ
  pub global : ℕ
  pub required_stage : ℕ

-- one more feature: with the bit that all share, or with bits of its own
abbrev pub with_plain : Allotment → Setting → Indexes → Allotment
with_plain a s i = record a { features = a.features ++ feature_with s i GLOBAL_PLACE GLOBAL_BIT ∷ [] }

abbrev pub with_own : Allotment → Setting → Indexes → Allotment
with_own a s i = let bits = bits_from a.place (bits_needed s) in record a {
  features = a.features ++ feature_with s i a.place bits ∷ [];
  place = a.place + bits_needed s;
  global = bit_or a.global (bit_and (s.default_value * 2 ^ a.place % 2 ^ 32) bits);
}

abbrev pub with_feature : Allotment → Setting → Indexes → Allotment
with_feature a s i = if is_plain s then with_plain a s i else with_own a s i

-- a feature that no table has is left out unless it has a fallback
abbrev pub with_indexes : Allotment → Setting → Indexes → Allotment
with_indexes a s i = if is_found i || s.has_fallback then with_feature a s i else a

-- the required feature of GSUB runs in the stage of the setting with its tag
abbrev pub with_required : Chosen → Allotment → Setting → Allotment
with_required gsub a s = if nat_eq (required_tag_of gsub) s.tag then record a { required_stage = s.stage } else a

abbrev pub with_setting : Chosen → Chosen → Allotment → Setting → Allotment
with_setting gsub gpos a s =
    if has_room a.place s then with_indexes (with_required gsub a s) s (indexes_of gsub gpos s) else a

abbrev pub no_features : Allotment
no_features = record { features = []; place = 0; global = GLOBAL_BIT; required_stage = 0 }

abbrev pub allotted : Chosen → Chosen → List Setting → Allotment
allotted gsub gpos settings = fold (with_setting gsub gpos) no_features settings

-- bits in their place: none of the four lowest is among them
abbrev pub mask_of : ℕ → ℕ
mask_of bits = bits * 2 ^ 4 % 2 ^ 32

abbrev pub shift_of : FeatureMap → ℕ
shift_of f = 4 + min f.place GLOBAL_PLACE

-- the bit of value 1
abbrev pub one_bit_of : FeatureMap → ℕ
one_bit_of f = bit_and (2 ^ min f.place GLOBAL_PLACE) f.bits
