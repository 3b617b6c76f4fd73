-- Feature variations (OpenType, "OpenType Layout Common Table Formats", FeatureVariations Table), at some coordinates of a
-- font: normalized, in units of 1/16384.
use Rattle.std.specs.Prelude.{ℕ, ℤ, pos, List, Option, Some, None, Bool, true, not, is_none, ◌+◌, ◌*◌, ◌&&◌, int_le, int_lt, nat_eq, nat_le}
use Rattle.std.specs.Prelude.{if◌then◌else◌, slice_index_or}
use Rattle.std.specs.Option.{option_and_then, option_map_or}
use Rattle.shape_font.specs.Bytes.{u16_of, u32_of, i16_of, fitting}
use Rattle.shape_font.specs.Search.{first_at}
use Rattle.layout_tables.specs.Offsets.{offset32_of}
use Rattle.layout_tables.specs.Features.{feature_of}

-- the coordinate of an axis; it is 0, the default, past the last one that is given
abbrev pub coordinate_of : List ℤ → ℕ → ℤ
coordinate_of coordinates axis = slice_index_or coordinates axis (pos 0)

-- the coordinate of an axis is at least the one number, and at most the other
abbrev pub is_within : List ℕ → List ℤ → ℕ → Bool
is_within t coordinates at = let coordinate = coordinate_of coordinates (u16_of t (at + 2)) in
    int_le (i16_of t (at + 4)) coordinate && int_le coordinate (i16_of t (at + 6))

-- format 1: a least and a greatest coordinate of an axis; format 2: a value at the default instance, which is positive
abbrev pub condition_holds : List ℕ → List ℤ → ℕ → Bool
condition_holds t coordinates at = if nat_eq (u16_of t at) 1 then is_within t coordinates at
    else (nat_eq (u16_of t at) 2 && int_lt (pos 0) (i16_of t (at + 2)))

-- condition `i` of the ConditionSet at `set` fails; so does one whose offset is NULL
abbrev pub condition_fails : List ℕ → List ℤ → ℕ → ℕ → Bool
condition_fails t coordinates set i =
    option_map_or (λ at. not (condition_holds t coordinates at)) (offset32_of t set (set + 2 + 4 * i)) true

-- a set holds if none of its conditions fails; one of more than 256 does not
abbrev pub conditions_of : List ℕ → ℕ → ℕ
conditions_of t set = fitting t (u16_of t set) (set + 2) 4

abbrev pub set_holds : List ℕ → List ℤ → ℕ → Bool
set_holds t coordinates set = nat_le (conditions_of t set) 256
    && is_none (first_at (condition_fails t coordinates set) (conditions_of t set) 0)

-- record `i` of the FeatureVariations table at `start`, whose first offset is that of its set; a NULL one always holds
abbrev pub record_holds : List ℕ → List ℤ → ℕ → ℕ → Bool
record_holds t coordinates start i = option_map_or (set_holds t coordinates) (offset32_of t start (start + 8 + 8 * i)) true

-- where the FeatureVariations table stands, since version 1.1
abbrev pub feature_variations_of : List ℕ → Option ℕ
feature_variations_of t = if nat_eq (u16_of t 0) 1 && nat_le 1 (u16_of t 2) then offset32_of t 0 10 else None

-- the FeatureTableSubstitution table of the first record that holds; both tables are of major version 1
abbrev pub substitution_at : List ℕ → ℕ → ℕ → Option ℕ
substitution_at t start i = option_and_then (λ at. if nat_eq (u16_of t at) 1 then Some at else None)
    (offset32_of t start (start + 12 + 8 * i))

abbrev pub substitution_in : List ℕ → List ℤ → ℕ → Option ℕ
substitution_in t coordinates start = if nat_eq (u16_of t start) 1
    then option_and_then (substitution_at t start)
    (first_at (record_holds t coordinates start) (fitting t (u32_of t (start + 4)) (start + 8) 8) 0)
    else None

abbrev pub substitution_of : List ℕ → List ℤ → Option ℕ
substitution_of t coordinates = option_and_then (substitution_in t coordinates) (feature_variations_of t)

-- the record for a feature, of the FeatureTableSubstitution table at `at`
abbrev pub is_substitute : List ℕ → ℕ → ℕ → ℕ → Bool
is_substitute t index at i = nat_eq (u16_of t (at + 6 + 6 * i)) index

abbrev pub substitute_in : List ℕ → ℕ → ℕ → Option ℕ
substitute_in t index at = first_at (is_substitute t index at) (fitting t (u16_of t (at + 4)) (at + 6) 6) 0

-- where the Feature table stands that takes the place of feature `index`, by the record at `i`
abbrev pub substitute_at : List ℕ → ℕ → ℕ → Option ℕ
substitute_at t at i = offset32_of t at (at + 8 + 6 * i)

-- where the Feature table of a feature stands, with the substitutions at `substitution`
abbrev pub varied_in : List ℕ → ℕ → ℕ → Option ℕ
varied_in t index at = option_map_or (substitute_at t at) (substitute_in t index at) (feature_of t index)

abbrev pub varied_feature_of : List ℕ → Option ℕ → ℕ → Option ℕ
varied_feature_of t substitution index = option_map_or (varied_in t index) substitution (feature_of t index)
