-- Coverage, classes and what GDEF says of glyphs, on tables that were read by hand.
use Rattle.std.specs.Prelude.{◌≡◌, ℕ, List, [], ◌∷◌, ◌++◌, Some, None, true, false, refl}
use Rattle.shape_font.specs.Worked.Glyphs.{words}
use Rattle.layout_tables.specs.Coverage.{coverage_index, covers}
use Rattle.layout_tables.specs.Classes.{class_of}
use Rattle.layout_tables.specs.Gdef.{has_glyph_classes, glyph_class, mark_attachment_class, glyph_props, mark_set_covers}

-- after a word that is no part of it: format 1, glyphs 10, 20 and 30
abbrev pub three_glyphs : List ℕ
three_glyphs = words (7 ∷ 1 ∷ 3 ∷ 10 ∷ 20 ∷ 30 ∷ [])

-- format 2: glyphs 10 to 12 from index 5 on, and glyph 20 with index 3
abbrev pub two_ranges : List ℕ
two_ranges = words (2 ∷ 2 ∷ 10 ∷ 12 ∷ 5 ∷ 20 ∷ 20 ∷ 3 ∷ [])

pub record WorkedCoverage : Type 0 where
  pub first : coverage_index three_glyphs 2 10 ≡ Some 0
  pub second : coverage_index three_glyphs 2 20 ≡ Some 1
  pub last : coverage_index three_glyphs 2 30 ≡ Some 2
  pub between : coverage_index three_glyphs 2 15 ≡ None
  pub after_the_last : coverage_index three_glyphs 2 31 ≡ None
  pub past_the_count : coverage_index (words (1 ∷ 1 ∷ 10 ∷ 20 ∷ [])) 0 20 ≡ None
  -- count is cut to the two glyphs that are there
  pub past_the_end : coverage_index (words (1 ∷ 9 ∷ 10 ∷ 20 ∷ [])) 0 20 ≡ Some 1
  pub start_of_a_range : coverage_index two_ranges 0 10 ≡ Some 5
  pub end_of_a_range : coverage_index two_ranges 0 12 ≡ Some 7
  pub after_a_range : coverage_index two_ranges 0 13 ≡ None
  pub second_range : coverage_index two_ranges 0 20 ≡ Some 3
  pub ranges_past_the_count : coverage_index (words (2 ∷ 1 ∷ 10 ∷ 12 ∷ 5 ∷ 20 ∷ 20 ∷ 3 ∷ [])) 0 20 ≡ None
  pub other_format : coverage_index (words (3 ∷ 1 ∷ 10 ∷ 10 ∷ 0 ∷ [])) 0 10 ≡ None
  pub no_table : coverage_index [] 0 0 ≡ None
  -- there is no room for a whole glyph, or for a whole range
  pub no_room : coverage_index (words (1 ∷ 4 ∷ []) ++ 0 ∷ []) 0 0 ≡ None
  pub no_room_for_a_range : coverage_index (words (2 ∷ 4 ∷ 5 ∷ 9 ∷ []) ++ 0 ∷ []) 0 7 ≡ None
  pub index_cut_off : coverage_index (words (2 ∷ 1 ∷ 5 ∷ 9 ∷ []) ++ 0 ∷ []) 0 7 ≡ None
  pub within_the_second_range : coverage_index (words (2 ∷ 2 ∷ 5 ∷ 6 ∷ 0 ∷ 9 ∷ 11 ∷ 2 ∷ [])) 0 10 ≡ Some 3
  pub greatest_glyph : coverage_index (words (1 ∷ 1 ∷ 0xFFFF ∷ [])) 0 0xFFFF ≡ Some 0
  pub format_0 : coverage_index (words (0 ∷ 1 ∷ 10 ∷ 10 ∷ 0 ∷ [])) 0 10 ≡ None
  pub covered : covers two_ranges 0 11 ≡ true
  pub not_covered : covers two_ranges 0 19 ≡ false

pub worked_coverage : WorkedCoverage
worked_coverage = record {
  first = refl;
  second = refl;
  last = refl;
  between = refl;
  after_the_last = refl;
  past_the_count = refl;
  past_the_end = refl;
  start_of_a_range = refl;
  end_of_a_range = refl;
  after_a_range = refl;
  second_range = refl;
  ranges_past_the_count = refl;
  other_format = refl;
  no_table = refl;
  no_room = refl;
  no_room_for_a_range = refl;
  index_cut_off = refl;
  within_the_second_range = refl;
  greatest_glyph = refl;
  format_0 = refl;
  covered = refl;
  not_covered = refl;
}

-- format 1: glyphs 10 to 12 have classes 4 to 6; a word that is no part of it follows
abbrev pub three_classes : List ℕ
three_classes = words (1 ∷ 10 ∷ 3 ∷ 4 ∷ 5 ∷ 6 ∷ 77 ∷ [])

-- format 2: glyphs 10 to 12 have class 7, glyph 20 has class 8
abbrev pub two_class_ranges : List ℕ
two_class_ranges = words (2 ∷ 2 ∷ 10 ∷ 12 ∷ 7 ∷ 20 ∷ 20 ∷ 8 ∷ [])

pub record WorkedClasses : Type 0 where
  pub first : class_of three_classes 0 10 ≡ 4
  pub last : class_of three_classes 0 12 ≡ 6
  pub before_the_first : class_of three_classes 0 9 ≡ 0
  pub past_the_count : class_of three_classes 0 13 ≡ 0
  pub start_of_a_range : class_of two_class_ranges 0 10 ≡ 7
  pub end_of_a_range : class_of two_class_ranges 0 12 ≡ 7
  pub after_a_range : class_of two_class_ranges 0 13 ≡ 0
  pub second_range : class_of two_class_ranges 0 20 ≡ 8
  pub other_format : class_of (words (3 ∷ 1 ∷ 10 ∷ 12 ∷ 7 ∷ [])) 0 10 ≡ 0
  pub format_0 : class_of (words (0 ∷ 10 ∷ 1 ∷ 4 ∷ [])) 0 10 ≡ 0
  pub ranges_of_format_0 : class_of (words (0 ∷ 1 ∷ 10 ∷ 12 ∷ 7 ∷ [])) 0 10 ≡ 0
  -- one byte is no class
  pub class_cut_off : class_of (words (1 ∷ 10 ∷ 2 ∷ 4 ∷ []) ++ 5 ∷ []) 0 11 ≡ 0
  pub no_table : class_of [] 0 0 ≡ 0

pub worked_classes : WorkedClasses
worked_classes = record {
  first = refl;
  last = refl;
  before_the_first = refl;
  past_the_count = refl;
  start_of_a_range = refl;
  end_of_a_range = refl;
  after_a_range = refl;
  second_range = refl;
  other_format = refl;
  format_0 = refl;
  ranges_of_format_0 = refl;
  class_cut_off = refl;
  no_table = refl;
}

-- a table of a version: glyphs 10 to 13 are a base, a ligature, a mark and a component; their attachment classes are 5, 6, 263
-- and 8; the sets of marks are of a format, and set 0 has glyph 12, set 1 is NULL
abbrev pub definitions : ℕ → ℕ → ℕ → List ℕ
definitions major minor format = words (major ∷ minor ∷ 14 ∷ 0 ∷ 0 ∷ 28 ∷ 42
    ∷ 1 ∷ 10 ∷ 4 ∷ 1 ∷ 2 ∷ 3 ∷ 4
    ∷ 1 ∷ 10 ∷ 4 ∷ 5 ∷ 6 ∷ 263 ∷ 8
    ∷ format ∷ 2 ∷ 0 ∷ 12 ∷ 0 ∷ 0
    ∷ 1 ∷ 1 ∷ 12 ∷ [])

pub record WorkedDefinitions : Type 0 where
  pub classes : has_glyph_classes (definitions 1 2 1) ≡ true
  pub null_classes : has_glyph_classes (words (1 ∷ 0 ∷ 0 ∷ 0 ∷ 0 ∷ 12 ∷ [])) ≡ false
  pub other_version : has_glyph_classes (definitions 2 0 1) ≡ false
  pub no_table : has_glyph_classes [] ≡ false
  pub component : glyph_class (definitions 1 2 1) 13 ≡ 4
  pub no_class : glyph_class (definitions 1 2 1) 14 ≡ 0
  -- the offset of classes has two bytes, at 4
  pub low_offset : has_glyph_classes (words (1 ∷ 0 ∷ 0x100 ∷ 0 ∷ [])) ≡ true
  pub without_classes : glyph_class (words (1 ∷ 0 ∷ 0 ∷ 0 ∷ 0 ∷ 0 ∷ [])) 10 ≡ 0
  pub without_attachment_classes : mark_attachment_class (words (1 ∷ 0 ∷ 0 ∷ 0 ∷ 0 ∷ 0 ∷ [])) 10 ≡ 0
  pub attachment_class : mark_attachment_class (definitions 1 2 1) 11 ≡ 6
  pub base_props : glyph_props (definitions 1 2 1) 10 ≡ 2
  pub ligature_props : glyph_props (definitions 1 2 1) 11 ≡ 4
  -- 8, and 263 modulo 256 in the upper byte
  pub mark_props : glyph_props (definitions 1 2 1) 12 ≡ 1800
  pub component_props : glyph_props (definitions 1 2 1) 13 ≡ 0
  pub other_props : glyph_props (definitions 1 2 1) 14 ≡ 0
  pub in_a_set : mark_set_covers (definitions 1 2 1) 0 12 ≡ true
  pub not_in_a_set : mark_set_covers (definitions 1 2 1) 0 11 ≡ false
  pub null_set : mark_set_covers (definitions 1 2 1) 1 12 ≡ false
  pub no_set : mark_set_covers (definitions 1 2 1) 2 12 ≡ false
  pub since_1_2 : mark_set_covers (definitions 1 1 1) 0 12 ≡ false
  pub other_format : mark_set_covers (definitions 1 2 2) 0 12 ≡ false
  pub format_0_of_sets : mark_set_covers (definitions 1 2 0) 0 12 ≡ false
  -- set 0 is NULL, set 1 has glyph 12
  pub second_set : mark_set_covers (words (1 ∷ 2 ∷ 0 ∷ 0 ∷ 0 ∷ 0 ∷ 14 ∷ 1 ∷ 2 ∷ 0 ∷ 0 ∷ 0 ∷ 12 ∷ 1 ∷ 1 ∷ 12 ∷ [])) 1 12 ≡ true
  -- two offsets of a set with glyph 12, of which one is stated
  pub past_the_count_of_sets : mark_set_covers (words (1 ∷ 2 ∷ 0 ∷ 0 ∷ 0 ∷ 0 ∷ 14 ∷ 1 ∷ 1 ∷ 0 ∷ 12 ∷ 0 ∷ 12 ∷ 1 ∷ 1 ∷ 12 ∷ [])) 1 12 ≡ false

pub worked_definitions : WorkedDefinitions
worked_definitions = record {
  classes = refl;
  null_classes = refl;
  other_version = refl;
  no_table = refl;
  component = refl;
  no_class = refl;
  low_offset = refl;
  without_classes = refl;
  without_attachment_classes = refl;
  attachment_class = refl;
  base_props = refl;
  ligature_props = refl;
  mark_props = refl;
  component_props = refl;
  other_props = refl;
  in_a_set = refl;
  not_in_a_set = refl;
  null_set = refl;
  no_set = refl;
  since_1_2 = refl;
  other_format = refl;
  format_0_of_sets = refl;
  second_set = refl;
  past_the_count_of_sets = refl;
}
