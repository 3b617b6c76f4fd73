-- Chains of subtables, and values of pairs, on tables of 16-bit words that were read by hand.
use Rattle.std.specs.Prelude.{◌≡◌, ℕ, pos, negsuc, List, [], ◌∷◌, ◌++◌, true, false, refl}
use Rattle.font_bytes.specs.Bytes.{i32_of}
use Rattle.shape_font.specs.Bytes.{i16_of}
use Rattle.shape_font.specs.Worked.Glyphs.{words}
use Rattle.apple_positioning.specs.Chains.{header_of, subtables_of}
use Rattle.apple_positioning.specs.Values.{kerning_of}

-- a table of a version that states so many subtables
abbrev pub chain : ℕ → ℕ → List ℕ → List ℕ
chain version count subtables = words (version ∷ 0 ∷ 0 ∷ count ∷ []) ++ subtables

-- a subtable of 14 bytes that states a length: of a format that isn't known, and with a number after its header
abbrev pub stated : ℕ → ℕ → List ℕ
stated len n = words (0 ∷ len ∷ 0 ∷ 3 ∷ 0 ∷ 0 ∷ n ∷ [])

pub record WorkedChains : Type 0 where
  pub one : subtables_of (chain 2 1 (stated 14 7)) ≡ stated 14 7 ∷ []
  pub two : subtables_of (chain 2 2 (stated 14 7 ++ stated 14 8)) ≡ stated 14 7 ∷ stated 14 8 ∷ []
  pub one_of_two : subtables_of (chain 2 1 (stated 12 7 ++ stated 14 8)) ≡ (stated 12 7 ++ stated 14 8) ∷ []
  -- the last one has more bytes than it states, the first one doesn't
  pub last_has_the_rest : subtables_of (chain 2 2 (words (0 ∷ 12 ∷ 0 ∷ 3 ∷ 0 ∷ 0 ∷ []) ++ stated 12 8))
      ≡ words (0 ∷ 12 ∷ 0 ∷ 3 ∷ 0 ∷ 0 ∷ []) ∷ stated 12 8 ∷ []
  pub more_are_stated : subtables_of (chain 2 3 (stated 14 7 ++ stated 14 8)) ≡ stated 14 7 ∷ stated 14 8 ∷ []
  pub short : subtables_of (chain 2 2 (stated 11 7 ++ stated 14 8)) ≡ []
  pub long : subtables_of (chain 2 2 (stated 14 7 ++ stated 15 8)) ≡ stated 14 7 ∷ []
  pub newer : subtables_of (chain 4 1 (stated 14 7)) ≡ stated 14 7 ∷ []
  pub older : subtables_of (chain 1 1 (stated 14 7)) ≡ []
  pub none : subtables_of (chain 2 0 (stated 14 7)) ≡ []
  pub no_table : subtables_of [] ≡ []

pub record WorkedHeaders : Type 0 where
  pub plain : header_of (words (0 ∷ 12 ∷ 0 ∷ 6 ∷ 0 ∷ 0 ∷ []))
      ≡ record { is_vertical = false; is_cross_stream = false; has_variation = false; is_backward = false; format = 6; tuple_count = 0 }
  pub vertical : header_of (words (0 ∷ 12 ∷ 0x8000 ∷ 0 ∷ 0 ∷ 0 ∷ []))
      ≡ record { is_vertical = true; is_cross_stream = false; has_variation = false; is_backward = false; format = 0; tuple_count = 0 }
  pub cross_stream : header_of (words (0 ∷ 12 ∷ 0x4000 ∷ 1 ∷ 0 ∷ 0 ∷ []))
      ≡ record { is_vertical = false; is_cross_stream = true; has_variation = false; is_backward = false; format = 1; tuple_count = 0 }
  pub variation : header_of (words (0 ∷ 12 ∷ 0x2000 ∷ 2 ∷ 1 ∷ 2 ∷ []))
      ≡ record { is_vertical = false; is_cross_stream = false; has_variation = true; is_backward = false; format = 2; tuple_count = 65538 }
  pub backward : header_of (words (0 ∷ 12 ∷ 0x1000 ∷ 4 ∷ 0 ∷ 0 ∷ []))
      ≡ record { is_vertical = false; is_cross_stream = false; has_variation = false; is_backward = true; format = 4; tuple_count = 0 }
  -- reserved bits
  pub other_bits : header_of (words (0 ∷ 12 ∷ 0x0FFF ∷ 0xFF00 ∷ 0 ∷ 0 ∷ []))
      ≡ record { is_vertical = false; is_cross_stream = false; has_variation = false; is_backward = false; format = 0; tuple_count = 0 }

-- format 0: so many tuples, and of so many pairs that are stated there are two, glyphs 2 and 3 by this value, 3 and 2 by -35; then 7 and
-- 8 at 40
abbrev pub pairs : ℕ → ℕ → ℕ → List ℕ
pairs tuples count value = words (0 ∷ 44 ∷ 0 ∷ 0 ∷ 0 ∷ tuples ∷ 0 ∷ count ∷ 0 ∷ 0 ∷ 0 ∷ 0 ∷ 0 ∷ 0 ∷
    2 ∷ 3 ∷ value ∷ 3 ∷ 2 ∷ 0xFFDD ∷ 7 ∷ 8 ∷ [])

pub record WorkedPairs : Type 0 where
  pub first : kerning_of (pairs 0 2 50) 9 2 3 ≡ pos 50
  pub second : kerning_of (pairs 0 2 50) 9 3 2 ≡ negsuc 34
  pub not_listed : kerning_of (pairs 0 2 50) 9 2 2 ≡ pos 0
  pub past_the_count : kerning_of (pairs 0 1 50) 9 3 2 ≡ pos 0
  pub room : kerning_of (pairs 0 0xFFFF 50) 9 2 3 ≡ pos 50
  -- 65539 is 3 past 65536
  pub past_all_glyphs : kerning_of (pairs 0 2 50) 9 65538 3 ≡ pos 0
  pub right_past_all_glyphs : kerning_of (pairs 0 2 50) 9 1 65539 ≡ pos 0
  pub of_a_tuple : kerning_of (pairs 2 2 40) 9 2 3 ≡ pos 7
  pub past_the_end : kerning_of (pairs 2 2 42) 9 2 3 ≡ pos 0
  pub below_0 : kerning_of (pairs 2 2 50) 9 3 2 ≡ pos 0
  pub no_tuple : kerning_of (pairs 2 2 40) 9 2 2 ≡ pos 0
  pub other_format : kerning_of (words (0 ∷ 44 ∷ 0 ∷ 1 ∷ []) ++ words (0 ∷ 0 ∷ 0 ∷ 1 ∷ 0 ∷ 0 ∷ 0 ∷ 0 ∷ 0 ∷ 0 ∷ 2 ∷ 3 ∷ 50 ∷ [])) 9 2 3 ≡ pos 0
  pub no_bytes : kerning_of [] 9 2 3 ≡ pos 0

-- format 2: left glyphs 2 and 3 have these classes, right ones by the table that is given at 38; values 10, -20, 30 and -40 at 48
abbrev pub classes : ℕ → ℕ → List ℕ → List ℕ
classes of_2 of_3 rights = words (0 ∷ 56 ∷ 0 ∷ 2 ∷ 0 ∷ 0 ∷ 0 ∷ 4 ∷ 0 ∷ 28 ∷ 0 ∷ 38 ∷ 0 ∷ 48 ∷
    8 ∷ 2 ∷ 2 ∷ of_2 ∷ of_3 ∷ []) ++ (words rights ++ words (10 ∷ 0xFFEC ∷ 30 ∷ 0xFFD8 ∷ []))

-- right glyphs 2 and 3 have classes 0 and 1
abbrev pub columns : List ℕ
columns = 8 ∷ 2 ∷ 2 ∷ 0 ∷ 1 ∷ []

pub record WorkedClasses : Type 0 where
  pub first : kerning_of (classes 0 2 columns) 9 2 2 ≡ pos 10
  pub second : kerning_of (classes 0 2 columns) 9 2 3 ≡ negsuc 19
  pub next_row : kerning_of (classes 0 2 columns) 9 3 2 ≡ pos 30
  pub last : kerning_of (classes 0 2 columns) 9 3 3 ≡ negsuc 39
  pub left_not_named : kerning_of (classes 0 2 columns) 9 4 3 ≡ pos 0
  pub right_not_named : kerning_of (classes 0 2 columns) 9 2 4 ≡ pos 0
  pub past_the_end : kerning_of (classes 0 3 columns) 9 3 3 ≡ pos 0
  -- glyph 3 is of class 1 there, and counts as of class 0
  pub format_10 : kerning_of (classes 0 2 (10 ∷ 2 ∷ 3 ∷ 1 ∷ 1 ∷ [])) 9 3 3 ≡ pos 30
  pub not_in_format_10 : kerning_of (classes 0 2 (10 ∷ 2 ∷ 3 ∷ 1 ∷ 1 ∷ [])) 9 3 2 ≡ pos 0

-- format 6, so many tuples, flags, and a table of rows; the same columns at 46, and values 10, 60, 30 and -40 at 56
abbrev pub rows : ℕ → ℕ → List ℕ → List ℕ
rows tuples flags table = words (0 ∷ 64 ∷ 0 ∷ 6 ∷ 0 ∷ tuples ∷ 0 ∷ flags ∷ 2 ∷ 2 ∷ 0 ∷ 36 ∷ 0 ∷ 46 ∷ 0 ∷ 56 ∷ 0 ∷ 2 ∷ [])
    ++ (words table ++ (words columns ++ words (10 ∷ 60 ∷ 30 ∷ 0xFFD8 ∷ [])))

-- rows of glyphs 2 and 3 stand at 0 and 2
abbrev pub two_rows : List ℕ
two_rows = 8 ∷ 2 ∷ 2 ∷ 0 ∷ 2 ∷ []

-- the same with values of 32 bits: rows at 36, columns at 50, values -1, 65536, 5 and -65536 at 64
abbrev pub long_rows : List ℕ
long_rows = words (0 ∷ 80 ∷ 0 ∷ 6 ∷ 0 ∷ 0 ∷ 0 ∷ 1 ∷ 2 ∷ 2 ∷ 0 ∷ 36 ∷ 0 ∷ 50 ∷ 0 ∷ 64 ∷ 0 ∷ 0 ∷
    8 ∷ 2 ∷ 2 ∷ 0 ∷ 0 ∷ 0 ∷ 2 ∷ 8 ∷ 2 ∷ 2 ∷ 0 ∷ 0 ∷ 0 ∷ 1 ∷
    0xFFFF ∷ 0xFFFF ∷ 1 ∷ 0 ∷ 0 ∷ 5 ∷ 0xFFFF ∷ 0 ∷ [])

pub record WorkedRows : Type 0 where
  pub first : kerning_of (rows 0 0 two_rows) 9 2 2 ≡ pos 10
  pub second : kerning_of (rows 0 0 two_rows) 9 2 3 ≡ pos 60
  pub next_row : kerning_of (rows 0 0 two_rows) 9 3 2 ≡ pos 30
  pub last : kerning_of (rows 0 0 two_rows) 9 3 3 ≡ negsuc 39
  pub left_not_named : kerning_of (rows 0 0 two_rows) 9 4 2 ≡ pos 0
  pub right_not_named : kerning_of (rows 0 0 two_rows) 9 2 4 ≡ pos 0
  pub past_the_end : kerning_of (rows 0 0 (8 ∷ 2 ∷ 2 ∷ 0 ∷ 3 ∷ [])) 9 3 3 ≡ pos 0
  -- three bytes a value: 0x10000, with the first byte of the columns, of which 16 bits count
  pub index_of_16_bits : kerning_of (rows 0 0 (10 ∷ 3 ∷ 3 ∷ 1 ∷ 0x0100 ∷ [])) 9 3 2 ≡ pos 10
  pub long_first : kerning_of long_rows 9 2 2 ≡ negsuc 0
  pub long_second : kerning_of long_rows 9 2 3 ≡ pos 65536
  pub long_next_row : kerning_of long_rows 9 3 2 ≡ pos 5
  pub long_last : kerning_of long_rows 9 3 3 ≡ negsuc 65535
  pub other_flags : kerning_of (rows 0 2 two_rows) 9 2 2 ≡ pos 10
  -- 60 after 2 stands -40, the last value
  pub of_a_tuple : kerning_of (rows 1 0 two_rows) 9 2 3 ≡ negsuc 39
  pub tuple_past_the_end : kerning_of (rows 2 0 two_rows) 9 2 3 ≡ pos 0

pub worked_chains : WorkedChains
worked_chains = record {
  one = refl;
  two = refl;
  one_of_two = refl;
  last_has_the_rest = refl;
  more_are_stated = refl;
  short = refl;
  long = refl;
  newer = refl;
  older = refl;
  none = refl;
  no_table = refl;
}

pub worked_headers : WorkedHeaders
worked_headers = record {
  plain = refl;
  vertical = refl;
  cross_stream = refl;
  variation = refl;
  backward = refl;
  other_bits = refl;
}

pub worked_pairs : WorkedPairs
unfolding kerning_of i16_of
worked_pairs = record {
  first = refl;
  second = refl;
  not_listed = refl;
  past_the_count = refl;
  room = refl;
  past_all_glyphs = refl;
  right_past_all_glyphs = refl;
  of_a_tuple = refl;
  past_the_end = refl;
  below_0 = refl;
  no_tuple = refl;
  other_format = refl;
  no_bytes = refl;
}

pub worked_classes : WorkedClasses
unfolding kerning_of i16_of
worked_classes = record {
  first = refl;
  second = refl;
  next_row = refl;
  last = refl;
  left_not_named = refl;
  right_not_named = refl;
  past_the_end = refl;
  format_10 = refl;
  not_in_format_10 = refl;
}

pub worked_rows : WorkedRows
unfolding kerning_of i16_of i32_of
worked_rows = record {
  first = refl;
  second = refl;
  next_row = refl;
  last = refl;
  left_not_named = refl;
  right_not_named = refl;
  past_the_end = refl;
  index_of_16_bits = refl;
  long_first = refl;
  long_second = refl;
  long_next_row = refl;
  long_last = refl;
  other_flags = refl;
  of_a_tuple = refl;
  tuple_past_the_end = refl;
}
