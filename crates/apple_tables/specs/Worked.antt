-- Lookup tables and state tables that were read by hand.
use Rattle.std.specs.Prelude.{◌≡◌, ℕ, List, [], ◌∷◌, Some, None, true, false, refl}
use Rattle.shape_font.specs.Worked.Glyphs.{words}
use Rattle.apple_tables.specs.Lookups.{value_of, place_of}
use Rattle.apple_tables.specs.States.{class_of, entry_of, entry_index}

-- ---- lookup tables: format 0, where a value for glyph 3 is lacking

abbrev pub simple : List ℕ
simple = words (0 ∷ 10 ∷ 20 ∷ 30 ∷ [])

-- format 2: glyphs 10 to 12 have 5, glyph 20 has 7, and a segment ends the search
abbrev pub segments : List ℕ
segments = words (2 ∷ 6 ∷ 3 ∷ 0 ∷ 0 ∷ 0 ∷ 12 ∷ 10 ∷ 5 ∷ 20 ∷ 20 ∷ 7 ∷ 0xFFFF ∷ 0xFFFF ∷ 9 ∷ [])

-- its last segment begins before 0xFFFF
abbrev pub last_glyphs : List ℕ
last_glyphs = words (2 ∷ 6 ∷ 1 ∷ 0 ∷ 0 ∷ 0 ∷ 0xFFFF ∷ 0xFFFE ∷ 9 ∷ [])

-- units of five bytes have no room for two glyphs and a value
abbrev pub narrow : List ℕ
narrow = words (2 ∷ 5 ∷ 1 ∷ 0 ∷ 0 ∷ 0 ∷ 12 ∷ 10 ∷ 5 ∷ [])

-- four bytes a value
abbrev pub long_segments : List ℕ
long_segments = words (2 ∷ 8 ∷ 1 ∷ 0 ∷ 0 ∷ 0 ∷ 12 ∷ 10 ∷ 1 ∷ 2 ∷ [])

-- format 4: the values of glyphs 10 and 11 stand 18 bytes after the start
abbrev pub lists : List ℕ
lists = words (4 ∷ 6 ∷ 1 ∷ 0 ∷ 0 ∷ 0 ∷ 11 ∷ 10 ∷ 18 ∷ 3 ∷ 4 ∷ [])

-- format 6: glyph 10 has 3, glyph 12 has 4
abbrev pub pairs : List ℕ
pairs = words (6 ∷ 4 ∷ 3 ∷ 0 ∷ 0 ∷ 0 ∷ 10 ∷ 3 ∷ 12 ∷ 4 ∷ 0xFFFF ∷ 0 ∷ [])

-- format 8: glyphs 10 and 11 have 1 and 2
abbrev pub row : List ℕ
row = words (8 ∷ 10 ∷ 2 ∷ 1 ∷ 2 ∷ [])

-- format 10: three bytes a value, the last one cut off
abbrev pub wide_row : List ℕ
wide_row = words (10 ∷ 3 ∷ 10 ∷ 3 ∷ 0x0001 ∷ 0x0203 ∷ 0x0405 ∷ 0x0600 ∷ [])

abbrev pub five_bytes : List ℕ
five_bytes = words (10 ∷ 5 ∷ 10 ∷ 1 ∷ 0 ∷ 0 ∷ 1 ∷ [])

pub record WorkedLookups : Type 0 where
  pub simple_first : value_of simple 0 false 4 0 ≡ Some 10
  pub simple_last : value_of simple 0 false 4 2 ≡ Some 30
  pub simple_cut_off : value_of simple 0 false 4 3 ≡ None
  pub simple_past_the_font : value_of simple 0 false 2 2 ≡ None
  pub simple_long : value_of simple 0 true 4 0 ≡ Some 0xA0014
  pub before_a_segment : value_of segments 0 false 0 9 ≡ None
  pub first_of_a_segment : value_of segments 0 false 0 10 ≡ Some 5
  pub last_of_a_segment : value_of segments 0 false 0 12 ≡ Some 5
  pub between_segments : value_of segments 0 false 0 13 ≡ None
  pub last_segment : value_of segments 0 false 0 20 ≡ Some 7
  pub ended : value_of segments 0 false 0 0xFFFF ≡ None
  pub not_ended : value_of last_glyphs 0 false 0 0xFFFF ≡ Some 9
  pub no_room_in_units : value_of narrow 0 false 0 10 ≡ None
  pub long_value : value_of long_segments 0 true 0 11 ≡ Some 0x10002
  pub listed_first : value_of lists 0 false 0 10 ≡ Some 3
  pub listed_second : value_of lists 0 false 0 11 ≡ Some 4
  pub not_listed : value_of lists 0 false 0 12 ≡ None
  pub single_first : value_of pairs 0 false 0 10 ≡ Some 3
  pub single_second : value_of pairs 0 false 0 12 ≡ Some 4
  pub no_single : value_of pairs 0 false 0 11 ≡ None
  pub single_ended : value_of pairs 0 false 0 0xFFFF ≡ None
  pub before_a_row : value_of row 0 false 0 9 ≡ None
  pub in_a_row : value_of row 0 false 0 11 ≡ Some 2
  pub past_a_row : value_of row 0 false 0 12 ≡ None
  pub three_bytes : value_of wide_row 0 false 0 11 ≡ Some 0x30405
  pub third_cut_off : value_of wide_row 0 false 0 12 ≡ None
  pub too_wide : value_of five_bytes 0 false 0 10 ≡ None
  pub no_place_of_three_bytes : place_of wide_row 0 false 0 11 ≡ None
  pub unknown_format : value_of (words (1 ∷ 2 ∷ 3 ∷ [])) 0 false 9 0 ≡ None
  pub at_a_place : value_of (0 ∷ 0 ∷ row) 2 false 0 10 ≡ Some 1

pub worked_lookups : WorkedLookups
worked_lookups = record {
  simple_first = refl;
  simple_last = refl;
  simple_cut_off = refl;
  simple_past_the_font = refl;
  simple_long = refl;
  before_a_segment = refl;
  first_of_a_segment = refl;
  last_of_a_segment = refl;
  between_segments = refl;
  last_segment = refl;
  ended = refl;
  not_ended = refl;
  no_room_in_units = refl;
  long_value = refl;
  listed_first = refl;
  listed_second = refl;
  not_listed = refl;
  single_first = refl;
  single_second = refl;
  no_single = refl;
  single_ended = refl;
  before_a_row = refl;
  in_a_row = refl;
  past_a_row = refl;
  three_bytes = refl;
  third_cut_off = refl;
  too_wide = refl;
  no_place_of_three_bytes = refl;
  unknown_format = refl;
  at_a_place = refl;
}

-- ---- a state table of five classes, with two states and three entries of six bytes; glyph 10 is of class 4, glyph 11 of class 9

abbrev pub machine : List ℕ
machine = words (0 ∷ 5 ∷ 0 ∷ 16 ∷ 0 ∷ 26 ∷ 0 ∷ 46 ∷
    8 ∷ 10 ∷ 2 ∷ 4 ∷ 9 ∷
    0 ∷ 1 ∷ 0 ∷ 0 ∷ 2 ∷
    0 ∷ 0 ∷ 0 ∷ 0 ∷ 1 ∷
    0 ∷ 0 ∷ 7 ∷ 1 ∷ 0x8000 ∷ 8 ∷ 1 ∷ 0x4000 ∷ 9 ∷ [])

pub record WorkedStates : Type 0 where
  pub named : class_of machine 0 20 10 ≡ 4
  pub past_the_classes : class_of machine 0 20 11 ≡ 9
  pub not_named : class_of machine 0 20 12 ≡ 1
  pub deleted : class_of machine 0 20 0xFFFF ≡ 2
  pub in_the_first_state : entry_index machine 0 0 4 ≡ 2
  pub in_the_second_state : entry_index machine 0 1 4 ≡ 1
  pub as_not_named : entry_index machine 0 0 9 ≡ 1
  pub past_the_end : entry_index machine 0 1000 4 ≡ 0
  pub entry : entry_of machine 0 6 0 4 ≡ record { at = 62; next = 1; flags = 0x4000 }
  pub first_entry : entry_of machine 0 6 1 0 ≡ record { at = 50; next = 0; flags = 0 }

pub worked_states : WorkedStates
worked_states = record {
  named = refl;
  past_the_classes = refl;
  not_named = refl;
  deleted = refl;
  in_the_first_state = refl;
  in_the_second_state = refl;
  as_not_named = refl;
  past_the_end = refl;
  entry = refl;
  first_entry = refl;
}
