-- Which characters subtables list, on tables that were read by hand.
use Rattle.std.specs.Prelude.{◌≡◌, List, ℕ, [], ◌∷◌, refl}
use Rattle.shape_font.specs.Worked.Glyphs.{words, three_segments, three_bytes, short_list, long_list}
use Rattle.opened_face.specs.Ranges.{range_count, first_listed, last_listed}

-- format 12 with two groups, U+0020..007E and U+1F600..1F64F, of three that it states
abbrev pub two_groups : List ℕ
two_groups = words (12 ∷ 0 ∷ 0 ∷ 40 ∷ 0 ∷ 0 ∷ 0 ∷ 3 ∷ 0 ∷ 0x20 ∷ 0 ∷ 0x7E ∷ 0 ∷ 3 ∷ 1 ∷ 0xF600 ∷ 1 ∷ 0xF64F ∷ 0 ∷ 98 ∷ [])

-- format 13 with one group, U+0041..005A
abbrev pub one_group : List ℕ
one_group = words (13 ∷ 0 ∷ 0 ∷ 28 ∷ 0 ∷ 0 ∷ 0 ∷ 1 ∷ 0 ∷ 0x41 ∷ 0 ∷ 0x5A ∷ 0 ∷ 3 ∷ [])

pub record WorkedRanges : Type 0 where
  pub segments : range_count three_segments ≡ 3
  pub first_of_a_segment : first_listed three_segments 1 ≡ 0x61
  pub last_of_a_segment : last_listed three_segments 1 ≡ 0x62
  pub groups : range_count two_groups ≡ 2
  pub first_of_a_group : first_listed two_groups 1 ≡ 0x1F600
  pub last_of_a_group : last_listed two_groups 1 ≡ 0x1F64F
  pub group_of_one_glyph : range_count one_group ≡ 1
  pub first_of_one_glyph : first_listed one_group 0 ≡ 0x41
  pub last_of_one_glyph : last_listed one_group 0 ≡ 0x5A
  pub long_list_is_one : range_count long_list ≡ 1
  pub bytes : range_count three_bytes ≡ 1
  pub first_byte : first_listed three_bytes 0 ≡ 0
  pub last_byte : last_listed three_bytes 0 ≡ 255
  pub list : range_count short_list ≡ 1
  pub first_of_a_list : first_listed short_list 0 ≡ 0x41
  pub last_of_a_list : last_listed short_list 0 ≡ 0x42
  pub first_of_a_long_list : first_listed long_list 0 ≡ 0x1F600
  pub last_of_a_long_list : last_listed long_list 0 ≡ 0x1F601
  pub last_of_32_bits : last_listed (words (10 ∷ 0 ∷ 0 ∷ 20 ∷ 0 ∷ 0 ∷ 0xFFFF ∷ 0xFFFF ∷ 0 ∷ 3 ∷ [])) 0 ≡ 0xFFFFFFFF
  pub other_format : range_count (words (2 ∷ 0 ∷ [])) ≡ 0
  pub no_table : range_count [] ≡ 1

pub worked_ranges : WorkedRanges
worked_ranges = record {
  segments = refl;
  first_of_a_segment = refl;
  last_of_a_segment = refl;
  groups = refl;
  first_of_a_group = refl;
  last_of_a_group = refl;
  group_of_one_glyph = refl;
  first_of_one_glyph = refl;
  last_of_one_glyph = refl;
  long_list_is_one = refl;
  bytes = refl;
  first_byte = refl;
  last_byte = refl;
  list = refl;
  first_of_a_list = refl;
  last_of_a_list = refl;
  first_of_a_long_list = refl;
  last_of_a_long_list = refl;
  last_of_32_bits = refl;
  other_format = refl;
  no_table = refl;
}
