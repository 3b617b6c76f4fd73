-- Glyphs, advances and boxes, on tables that were read by hand.
use Rattle.std.specs.Prelude.{◌≡◌, ℕ, pos, negsuc, List, [], ◌∷◌, ◌++◌, ◌/◌, ◌%◌, Some, None, true, false, replicate, refl}
use Rattle.shape_font.specs.Bytes.{i16_of}
use Rattle.shape_font.specs.Cmap.{cmap_glyph, mapped_glyph, groups_of}
use Rattle.shape_font.specs.declared.font_pages.FontPage.TheVariants.{Unicode, Symbols}
use Rattle.shape_font.specs.Metrics.{long_metrics, advance_of, bearing_of, place_of, box_of, no_box, framed_of}

-- numbers of two bytes each
abbrev pub words : List ℕ → List ℕ
words [] = []
words (n ∷ ns) = n / 256 ∷ n % 256 ∷ words ns

-- format 4 with three segments: U+0041..0043 moved by -64, U+0061..0062 by the list 9, 0 with a number added, U+FFFF
abbrev pub listed_with : ℕ → List ℕ
listed_with delta = words (4 ∷ 44 ∷ 0 ∷ 6 ∷ 0 ∷ 0 ∷ 0 ∷ 0x43 ∷ 0x62 ∷ 0xFFFF ∷ 0 ∷ 0x41 ∷ 0x61 ∷ 0xFFFF
    ∷ 65472 ∷ delta ∷ 1 ∷ 0 ∷ 4 ∷ 0 ∷ 9 ∷ 0 ∷ [])

abbrev pub three_segments : List ℕ
three_segments = listed_with 5

pub record WorkedSegments : Type 0 where
  pub first : cmap_glyph three_segments 0x41 ≡ 1
  pub last_of_the_first : cmap_glyph three_segments 0x43 ≡ 3
  pub between : cmap_glyph three_segments 0x44 ≡ 0
  pub before : cmap_glyph three_segments 0x40 ≡ 0
  pub by_the_list : cmap_glyph three_segments 0x61 ≡ 14
  pub nothing_in_the_list : cmap_glyph three_segments 0x62 ≡ 0
  pub delta_wraps : cmap_glyph three_segments 0xFFFF ≡ 0
  pub past_plane_0 : cmap_glyph three_segments 0x10041 ≡ 0
  pub other_format : cmap_glyph (words (5 ∷ 44 ∷ [])) 0x41 ≡ 0
  pub listed_delta_wraps : cmap_glyph (listed_with 65533) 0x61 ≡ 6
  -- 9 to 3, and 5 to 5: the end decides first
  pub after_a_segment_that_ends_before_it_starts : cmap_glyph
      (words (4 ∷ 32 ∷ 0 ∷ 4 ∷ 0 ∷ 0 ∷ 0 ∷ 3 ∷ 5 ∷ 0 ∷ 9 ∷ 5 ∷ 0 ∷ 2 ∷ 0 ∷ 0 ∷ [])) 5 ≡ 7
  -- one segment up to U+00FF, of which the rest reads as 0
  pub cut_off_after_the_ends : cmap_glyph (words (4 ∷ 16 ∷ 0 ∷ 2 ∷ 0 ∷ 0 ∷ 0 ∷ 0xFF ∷ [])) 0x41 ≡ 0x41

pub worked_segments : WorkedSegments
worked_segments = record {
  first = refl;
  last_of_the_first = refl;
  between = refl;
  before = refl;
  by_the_list = refl;
  nothing_in_the_list = refl;
  delta_wraps = refl;
  past_plane_0 = refl;
  other_format = refl;
  listed_delta_wraps = refl;
  after_a_segment_that_ends_before_it_starts = refl;
  cut_off_after_the_ends = refl;
}

-- format 0: glyphs 5, 6 and 7 for U+0000..0002, and no more bytes
abbrev pub three_bytes : List ℕ
three_bytes = 0 ∷ 0 ∷ 0 ∷ 9 ∷ 0 ∷ 0 ∷ 5 ∷ 6 ∷ 7 ∷ []

-- formats 6 and 10: glyphs 7 and 9 from U+0041 and U+1F600 on, and 11 after the two
abbrev pub short_list : List ℕ
short_list = words (6 ∷ 16 ∷ 0 ∷ 0x41 ∷ 2 ∷ 7 ∷ 9 ∷ 11 ∷ [])

abbrev pub long_list : List ℕ
long_list = words (10 ∷ 0 ∷ 0 ∷ 26 ∷ 0 ∷ 0 ∷ 1 ∷ 0xF600 ∷ 0 ∷ 2 ∷ 7 ∷ 9 ∷ 11 ∷ [])

pub record WorkedLists : Type 0 where
  pub first_byte : cmap_glyph three_bytes 0 ≡ 5
  pub last_byte : cmap_glyph three_bytes 2 ≡ 7
  pub past_the_bytes : cmap_glyph three_bytes 3 ≡ 0
  pub byte_255 : cmap_glyph (0 ∷ 0 ∷ replicate 270 9) 255 ≡ 9
  pub no_byte_256 : cmap_glyph (0 ∷ 0 ∷ replicate 270 9) 256 ≡ 0
  pub no_table : cmap_glyph [] 0x41 ≡ 0
  pub before_the_list : cmap_glyph short_list 0x40 ≡ 0
  pub first_listed : cmap_glyph short_list 0x41 ≡ 7
  pub last_listed : cmap_glyph short_list 0x42 ≡ 9
  pub past_the_list : cmap_glyph short_list 0x43 ≡ 0
  pub same_low_half : cmap_glyph short_list 0x10041 ≡ 0
  pub before_the_long_list : cmap_glyph long_list 0xF600 ≡ 0
  pub first_of_the_long_list : cmap_glyph long_list 0x1F600 ≡ 7
  pub last_of_the_long_list : cmap_glyph long_list 0x1F601 ≡ 9
  pub past_the_long_list : cmap_glyph long_list 0x1F602 ≡ 0
  pub count_of_32_bits : cmap_glyph (words (10 ∷ 0 ∷ 0 ∷ 22 ∷ 0 ∷ 0 ∷ 0 ∷ 0x41 ∷ 1 ∷ 0 ∷ 7 ∷ [])) 0x41 ≡ 7

pub worked_lists : WorkedLists
worked_lists = record {
  first_byte = refl;
  last_byte = refl;
  past_the_bytes = refl;
  byte_255 = refl;
  no_byte_256 = refl;
  no_table = refl;
  before_the_list = refl;
  first_listed = refl;
  last_listed = refl;
  past_the_list = refl;
  same_low_half = refl;
  before_the_long_list = refl;
  first_of_the_long_list = refl;
  last_of_the_long_list = refl;
  past_the_long_list = refl;
  count_of_32_bits = refl;
}

-- format 6 of symbols: glyphs 3 and 4 at U+F0FF and U+F100; and format 12: glyph 5 at U+0020, 9 at U+F020
abbrev pub symbols_listed : List ℕ
symbols_listed = words (6 ∷ 14 ∷ 0 ∷ 0xF0FF ∷ 2 ∷ 3 ∷ 4 ∷ [])

abbrev pub symbols_in_groups : List ℕ
symbols_in_groups = words (12 ∷ 0 ∷ 0 ∷ 40 ∷ 0 ∷ 0 ∷ 0 ∷ 2 ∷ 0 ∷ 0x20 ∷ 0 ∷ 0x20 ∷ 0 ∷ 5 ∷ 0 ∷ 0xF020 ∷ 0 ∷ 0xF020 ∷ 0 ∷ 9 ∷ [])

pub record WorkedSymbols : Type 0 where
  pub moved : mapped_glyph symbols_listed Symbols 0xFF ≡ 3
  pub not_moved_without_symbols : mapped_glyph symbols_listed Unicode 0xFF ≡ 0
  pub not_moved_from_256 : mapped_glyph symbols_listed Symbols 0x100 ≡ 0
  pub in_its_place : mapped_glyph symbols_listed Symbols 0xF100 ≡ 4
  pub own_glyph_first : mapped_glyph symbols_in_groups Symbols 0x20 ≡ 5

pub worked_symbols : WorkedSymbols
worked_symbols = record {
  moved = refl;
  not_moved_without_symbols = refl;
  not_moved_from_256 = refl;
  in_its_place = refl;
  own_glyph_first = refl;
}

-- formats 12 and 13 that state so many groups, with room for two: U+0041..0042 glyph 7, U+1F600 glyph 9
abbrev pub groups_in : ℕ → ℕ → List ℕ
groups_in format said = words (format ∷ 0 ∷ 0 ∷ 40 ∷ 0 ∷ 0 ∷ 0 ∷ said ∷ 0 ∷ 0x41 ∷ 0 ∷ 0x42 ∷ 0 ∷ 7 ∷ 1 ∷ 0xF600 ∷ 1 ∷ 0xF600 ∷ 0 ∷ 9 ∷ [])

abbrev pub two_groups : ℕ → List ℕ
two_groups said = groups_in 12 said

pub record WorkedGroups : Type 0 where
  pub first : cmap_glyph (two_groups 2) 0x41 ≡ 7
  pub end : cmap_glyph (two_groups 2) 0x42 ≡ 8
  pub between : cmap_glyph (two_groups 2) 0x43 ≡ 0
  pub last : cmap_glyph (two_groups 2) 0x1F600 ≡ 9
  pub past_the_last : cmap_glyph (two_groups 2) 0x1F601 ≡ 0
  pub fewer_are_said : cmap_glyph (two_groups 1) 0x1F600 ≡ 0
  pub same_for_all : cmap_glyph (groups_in 13 2) 0x42 ≡ 7
  pub other_group_for_all : cmap_glyph (groups_in 13 2) 0x1F600 ≡ 9
  pub past_the_groups_for_all : cmap_glyph (groups_in 13 2) 0x43 ≡ 0
  pub no_more_than_there_is_room_for : groups_of (two_groups 65535) ≡ 2
  pub glyph_of_32_bits : cmap_glyph (words (12 ∷ 0 ∷ 0 ∷ 28 ∷ 0 ∷ 0 ∷ 0 ∷ 1 ∷ 0 ∷ 0x41 ∷ 0 ∷ 0x41 ∷ 1 ∷ 7 ∷ [])) 0x41 ≡ 65543
  -- 9 to 3, and 5 to 5: the start decides first
  pub before_a_group_that_ends_before_it_starts : cmap_glyph
      (words (12 ∷ 0 ∷ 0 ∷ 40 ∷ 0 ∷ 0 ∷ 0 ∷ 2 ∷ 0 ∷ 9 ∷ 0 ∷ 3 ∷ 0 ∷ 7 ∷ 0 ∷ 5 ∷ 0 ∷ 5 ∷ 0 ∷ 8 ∷ [])) 5
      ≡ 0
  pub same_low_half : cmap_glyph (two_groups 2) 0xF600 ≡ 0
  pub count_of_32_bits : groups_of (words (12 ∷ 0 ∷ 0 ∷ 28 ∷ 0 ∷ 0 ∷ 1 ∷ 0 ∷ 0 ∷ 0x41 ∷ 0 ∷ 0x41 ∷ 0 ∷ 7 ∷ [])) ≡ 1
  -- U+0041 has the greatest number of 32 bits, U+0043 two more
  pub glyph_wraps : cmap_glyph (words (12 ∷ 0 ∷ 0 ∷ 28 ∷ 0 ∷ 0 ∷ 0 ∷ 1 ∷ 0 ∷ 0x41 ∷ 0 ∷ 0x43 ∷ 65535 ∷ 65535 ∷ [])) 0x43 ≡ 1

pub worked_groups : WorkedGroups
worked_groups = record {
  first = refl;
  end = refl;
  between = refl;
  last = refl;
  past_the_last = refl;
  fewer_are_said = refl;
  same_for_all = refl;
  other_group_for_all = refl;
  past_the_groups_for_all = refl;
  no_more_than_there_is_room_for = refl;
  glyph_of_32_bits = refl;
  before_a_group_that_ends_before_it_starts = refl;
  same_low_half = refl;
  count_of_32_bits = refl;
  glyph_wraps = refl;
}

-- two long metrics, 500 and 600 wide, then the bearings of glyphs 2 and 3
abbrev pub four_metrics : List ℕ
four_metrics = words (500 ∷ 50 ∷ 600 ∷ 65526 ∷ 7 ∷ 65535 ∷ [])

-- an outline's header: one contour in the box from (10, -20) to (300, 700)
abbrev pub header : List ℕ
header = words (1 ∷ 10 ∷ 65516 ∷ 300 ∷ 700 ∷ [])

pub record WorkedMetrics : Type 0 where
  pub first : advance_of four_metrics 2 0 ≡ 500
  pub last_long : advance_of four_metrics 2 1 ≡ 600
  pub shared : advance_of four_metrics 2 3 ≡ 600
  pub long_bearing : bearing_of four_metrics 2 1 ≡ Some (negsuc 9)
  pub short_bearing : bearing_of four_metrics 2 2 ≡ Some (pos 7)
  pub last_bearing : bearing_of four_metrics 2 3 ≡ Some (negsuc 0)
  pub as_many_as_said : long_metrics four_metrics 2 ≡ 2
  pub no_more_than_room : long_metrics four_metrics 9 ≡ 3
  pub past_the_bearings : bearing_of four_metrics 2 4 ≡ None
  pub half_a_bearing : bearing_of (words (500 ∷ 50 ∷ []) ++ 7 ∷ []) 1 1 ≡ None
  pub no_long_metric : bearing_of four_metrics 0 0 ≡ None
  pub short_place : place_of (words (0 ∷ 5 ∷ 9 ∷ [])) false 1 ≡ 10
  pub long_place : place_of (words (0 ∷ 0 ∷ 0 ∷ 14 ∷ [])) true 1 ≡ 14
  pub box : box_of (words (9 ∷ []) ++ header) 2 12 (Some (pos 30))
      ≡ record { x_bearing = pos 30; y_bearing = pos 700; width = pos 290; height = negsuc 719 }
  pub without_bearing : box_of header 0 10 None
      ≡ record { x_bearing = pos 10; y_bearing = pos 700; width = pos 290; height = negsuc 719 }
  pub no_outline : box_of header 10 10 (Some (pos 30)) ≡ no_box
  pub short_outline : box_of header 0 9 (Some (pos 30)) ≡ no_box
  pub past_the_table : box_of header 0 12 (Some (pos 30)) ≡ no_box

pub worked_metrics : WorkedMetrics
unfolding i16_of framed_of
worked_metrics = record {
  first = refl;
  last_long = refl;
  shared = refl;
  long_bearing = refl;
  short_bearing = refl;
  last_bearing = refl;
  as_many_as_said = refl;
  no_more_than_room = refl;
  past_the_bearings = refl;
  half_a_bearing = refl;
  no_long_metric = refl;
  short_place = refl;
  long_place = refl;
  box = refl;
  without_bearing = refl;
  no_outline = refl;
  short_outline = refl;
  past_the_table = refl;
}
