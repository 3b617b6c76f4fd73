-- Lookups and their subtables, on tables that were read by hand.
use Rattle.std.specs.Prelude.{◌≡◌, ℕ, List, [], ◌∷◌, ◌++◌, Some, None, refl}
use Rattle.shape_font.specs.Worked.Glyphs.{words}
use Rattle.layout_tables.specs.Lookups as of_lookups
use Rattle.layout_tables.specs.Lookups.{lookup_count_of, lookup_of, lookup_type_of, lookup_flag_of, subtable_count_of, subtable_of, mark_filtering_set_of}

-- lookup 0 at 16 of type 4 with flags 17 has a subtable at 26 and the mark filtering set 3; lookup 1 at 28 of type 7 has four,
-- which stand for one of type 4 at 142 and one at 65586, for none since the format is 2, and for none since the offset is NULL
abbrev pub two_lookups : List ℕ
two_lookups = words (1 ∷ 0 ∷ 0 ∷ 0 ∷ 10 ∷ 2 ∷ 6 ∷ 18
    ∷ 4 ∷ 17 ∷ 1 ∷ 10 ∷ 3 ∷ 1
    ∷ 7 ∷ 0 ∷ 4 ∷ 14 ∷ 22 ∷ 30 ∷ 38
    ∷ 1 ∷ 4 ∷ 0 ∷ 100
    ∷ 1 ∷ 4 ∷ 1 ∷ 0
    ∷ 2 ∷ 4 ∷ 0 ∷ 100
    ∷ 1 ∷ 4 ∷ 0 ∷ 0 ∷ [])

pub record WorkedLookups : Type 0 where
  pub count : lookup_count_of two_lookups ≡ 2
  pub count_cut : lookup_count_of (words (1 ∷ 0 ∷ 0 ∷ 0 ∷ 10 ∷ 9 ∷ 4 ∷ [])) ≡ 1
  pub no_room : lookup_count_of (words (1 ∷ 0 ∷ 0 ∷ 0 ∷ 10 ∷ 9 ∷ []) ++ 4 ∷ []) ≡ 0
  pub version_0 : lookup_count_of (words (0 ∷ 0 ∷ 0 ∷ 0 ∷ 10 ∷ 1 ∷ 4 ∷ [])) ≡ 0
  pub other_version : lookup_count_of (words (2 ∷ 0 ∷ 0 ∷ 0 ∷ 10 ∷ 1 ∷ 4 ∷ [])) ≡ 0
  pub first : lookup_of two_lookups 0 ≡ Some 16
  pub second : lookup_of two_lookups 1 ≡ Some 28
  pub past_the_last : lookup_of two_lookups 2 ≡ None
  pub kind : lookup_type_of two_lookups 16 ≡ 4
  pub flags : lookup_flag_of two_lookups 16 ≡ 17
  pub both_bytes_of_flags : lookup_flag_of (words (4 ∷ 0x310 ∷ 0 ∷ [])) 0 ≡ 0x310
  pub set : mark_filtering_set_of two_lookups 16 ≡ 3
  pub subtables : subtable_count_of two_lookups 28 ≡ 4
  pub subtables_cut : subtable_count_of (words (4 ∷ 0 ∷ 9 ∷ 8 ∷ [])) 0 ≡ 1
  pub no_room_for_a_subtable : subtable_count_of (words (4 ∷ 0 ∷ 9 ∷ []) ++ 8 ∷ []) 0 ≡ 0
  pub near : subtable_of two_lookups 7 16 0 ≡ Some (record { kind = 4; start = 26 })
  pub extended : subtable_of two_lookups 7 28 0 ≡ Some (record { kind = 4; start = 142 })
  pub extended_far : subtable_of two_lookups 7 28 1 ≡ Some (record { kind = 4; start = 65586 })
  pub other_format : subtable_of two_lookups 7 28 2 ≡ None
  pub null_extension : subtable_of two_lookups 7 28 3 ≡ None
  pub format_0 : of_lookups.extended (words (0 ∷ 4 ∷ 0 ∷ 8 ∷ [])) 0 ≡ None
  -- type 7 is no extension in GPOS
  pub other_extension : subtable_of two_lookups 9 28 0 ≡ Some (record { kind = 7; start = 42 })
  pub null_subtable : subtable_of (words (4 ∷ 0 ∷ 1 ∷ 0 ∷ [])) 7 0 0 ≡ None

pub worked_lookups : WorkedLookups
worked_lookups = record {
  count = refl;
  count_cut = refl;
  no_room = refl;
  version_0 = refl;
  other_version = refl;
  first = refl;
  second = refl;
  past_the_last = refl;
  kind = refl;
  flags = refl;
  both_bytes_of_flags = refl;
  set = refl;
  subtables = refl;
  subtables_cut = refl;
  no_room_for_a_subtable = refl;
  near = refl;
  extended = refl;
  extended_far = refl;
  other_format = refl;
  null_extension = refl;
  format_0 = refl;
  other_extension = refl;
  null_subtable = refl;
}
