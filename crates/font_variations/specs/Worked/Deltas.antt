-- Delta sets and index maps, on bytes that were read by hand.
use Rattle.std.specs.Prelude.{◌≡◌, ℕ, ℤ, pos, negsuc, List, [], ◌∷◌, ◌++◌, Some, None, refl, true, false}
use Rattle.std.specs.Float.{fin, round_with}
use lib.Count.{count_trailing_zeros}
use lib.Ieee.{round, size, span, climb, units, odd, of_bits, of_fields, of_int, div, mul, add, sum, eq, to_signed}
use Rattle.font_bytes.specs.Bytes.{i8_of, i16_of, i32_of}
use Rattle.font_variations.specs.Tents.{nothing, ratio, tent}
use Rattle.font_variations.specs.Regions.{axis_scalar, region_scalar}
use Rattle.font_variations.specs.Deltas.{delta_in, part_of, delta_of, row_steps, delta_within, rounded}
use Rattle.font_variations.specs.IndexMaps.{mapped}
use Rattle.font_variations.specs.Metrics.{metric_delta, advance_delta, advance_steps, bearing_delta, origin_delta}
use Rattle.font_variations.specs.Lines.{line_delta}
use Rattle.font_variations.specs.declared.metrics.TheConstants.{MOST_ROW_STEPS}
use Rattle.font_variations.specs.Worked.Scalars.{regions}

-- a store of one ItemVariationData, whose first bytes say how its rows are stored: two rows for the two regions
abbrev pub store_of : List ℕ → List ℕ
store_of rows = 0 ∷ 1 ∷ 0 ∷ 0 ∷ 0 ∷ 12 ∷ 0 ∷ 1 ∷ 0 ∷ 0 ∷ 0 ∷ 40 ∷ (regions ++ rows)

-- -200 in two bytes and 10 in one; 256 and -5
abbrev pub store : List ℕ
store = store_of (0 ∷ 2 ∷ 0 ∷ 1 ∷ 0 ∷ 2 ∷ 0 ∷ 0 ∷ 0 ∷ 1 ∷ 0xFF ∷ 0x38 ∷ 10 ∷ 1 ∷ 0 ∷ 0xFB ∷ [])

-- one byte less, and more columns in two bytes than there are
abbrev pub cut_store : List ℕ
cut_store = store_of (0 ∷ 2 ∷ 0 ∷ 1 ∷ 0 ∷ 2 ∷ 0 ∷ 0 ∷ 0 ∷ 1 ∷ 0xFF ∷ 0x38 ∷ 10 ∷ 1 ∷ 0 ∷ [])

abbrev pub wide_store : List ℕ
wide_store = store_of (0 ∷ 1 ∷ 0 ∷ 3 ∷ 0 ∷ 2 ∷ 0 ∷ 0 ∷ 0 ∷ 1 ∷ 0 ∷ 1 ∷ 0 ∷ 1 ∷ 0 ∷ 1 ∷ [])

-- long words: -65536 in four bytes and 10 in two
abbrev pub long_store : List ℕ
long_store = store_of (0 ∷ 1 ∷ 0x80 ∷ 1 ∷ 0 ∷ 2 ∷ 0 ∷ 0 ∷ 0 ∷ 1 ∷ 0xFF ∷ 0xFF ∷ 0 ∷ 0 ∷ 0 ∷ 10 ∷ [])

-- half along the first axis, a quarter along the second: region 0 takes a half part, region 1 an eighth
abbrev pub there : List ℤ
there = pos 8192 ∷ negsuc 4095 ∷ []

pub record WorkedDeltas : Type 0 where
  -- -100 + 1.25 = -98.75, and 128 - 0.625 = 127.375
  pub first_row : delta_of store there 0 ≡ fin true 395 (negsuc 1)
  pub second_row : delta_of store there 1 ≡ fin false 1019 (negsuc 2)
  pub no_such_row : delta_of store there 2 ≡ nothing
  pub no_such_data : delta_of store there 65536 ≡ nothing
  pub at_the_default : delta_of store [] 0 ≡ nothing
  -- -32768 + 1.25
  pub long_words : delta_of long_store there 0 ≡ fin true 131067 (negsuc 1)
  pub cut_off : delta_of cut_store there 0 ≡ nothing
  pub too_many_wide : delta_of wide_store there 0 ≡ nothing
  pub no_store : delta_of [] there 0 ≡ nothing
  -- two columns of two axes
  pub steps : row_steps store 1 ≡ 6
  pub no_steps : row_steps store 65536 ≡ 0
  pub short_row : delta_within 6 store there 1 ≡ fin false 1019 (negsuc 2)
  pub long_row : delta_within 5 store there 1 ≡ nothing
  pub to_the_nearest : rounded (fin true 395 (negsuc 1)) ≡ negsuc 98
  pub down : rounded (fin false 1019 (negsuc 2)) ≡ pos 127
  pub halves_up : rounded (fin false 5 (negsuc 0)) ≡ pos 3
  pub negative_halves_too : rounded (fin true 5 (negsuc 0)) ≡ negsuc 1
  -- the greatest number below 1/2: its sum with 1/2 is 1 to 24 bits
  pub just_below_a_half : rounded (fin false 16777215 (negsuc 24)) ≡ pos 1

pub record WorkedIndexMaps : Type 0 where
  -- one byte with four bits of each index
  pub first : mapped (0 ∷ 3 ∷ 0 ∷ 3 ∷ 0x12 ∷ 0x25 ∷ 0xFF ∷ []) 0 ≡ 0x10002
  pub second : mapped (0 ∷ 3 ∷ 0 ∷ 3 ∷ 0x12 ∷ 0x25 ∷ 0xFF ∷ []) 1 ≡ 0x20005
  pub last : mapped (0 ∷ 3 ∷ 0 ∷ 3 ∷ 0x12 ∷ 0x25 ∷ 0xFF ∷ []) 2 ≡ 0xF000F
  pub past_the_last : mapped (0 ∷ 3 ∷ 0 ∷ 3 ∷ 0x12 ∷ 0x25 ∷ 0xFF ∷ []) 9 ≡ 0xF000F
  -- two bytes, all of the inner index; three and four with one bit and sixteen
  pub inner_alone : mapped (0 ∷ 0x1F ∷ 0 ∷ 1 ∷ 0x12 ∷ 0x34 ∷ []) 0 ≡ 0x1234
  pub three_bytes : mapped (0 ∷ 0x20 ∷ 0 ∷ 1 ∷ 0 ∷ 0 ∷ 7 ∷ []) 0 ≡ 0x30001
  pub four_bytes : mapped (0 ∷ 0x3F ∷ 0 ∷ 1 ∷ 0 ∷ 5 ∷ 0 ∷ 6 ∷ []) 0 ≡ 0x50006
  -- an outer index of more than sixteen bits keeps those
  pub outer_cut : mapped (0 ∷ 0x37 ∷ 0 ∷ 1 ∷ 0xAB ∷ 0xCD ∷ 0xEF ∷ 0x01 ∷ []) 0 ≡ 0xCDEF0001
  -- format 1 counts in 32 bits
  pub format_1 : mapped (1 ∷ 0x13 ∷ 0 ∷ 0 ∷ 0 ∷ 1 ∷ 0x12 ∷ 0x34 ∷ []) 0 ≡ 0x1230004
  pub no_map : mapped [] 7 ≡ 7
  pub unknown_format : mapped (2 ∷ 3 ∷ 0 ∷ 1 ∷ 0x12 ∷ []) 7 ≡ 7
  pub cut_off : mapped (0 ∷ 3 ∷ 0 ∷ 3 ∷ 0x12 ∷ 0x25 ∷ []) 0 ≡ 0

-- a table whose store stands at 24, with an offset for each of four maps; the maps stand after the store
abbrev pub table_of : ℕ → ℕ → ℕ → List ℕ
table_of advances bearings origins = 0 ∷ 1 ∷ 0 ∷ 0 ∷ 0 ∷ 0 ∷ 0 ∷ 24 ∷ 0 ∷ 0 ∷ 0 ∷ advances ∷ 0 ∷ 0 ∷ 0 ∷ bearings
    ∷ 0 ∷ 0 ∷ 0 ∷ 0 ∷ 0 ∷ 0 ∷ 0 ∷ origins ∷ (store ++ 0 ∷ 0 ∷ 0 ∷ 2 ∷ 1 ∷ 0 ∷ [])

pub record WorkedMetrics : Type 0 where
  pub by_glyph : advance_delta (table_of 0 0 0) there 0 ≡ negsuc 98
  pub by_the_next_glyph : advance_delta (table_of 0 0 0) there 1 ≡ pos 127
  pub by_map : advance_delta (table_of 80 0 0) there 0 ≡ pos 127
  pub bearing : bearing_delta (table_of 0 80 0) there 1 ≡ Some (negsuc 98)
  pub no_bearing : bearing_delta (table_of 80 0 80) there 1 ≡ None
  pub origin : origin_delta (table_of 0 0 80) there 0 ≡ Some (pos 127)
  pub no_origin : origin_delta (table_of 80 80 0) there 0 ≡ None
  pub no_table : advance_delta [] there 0 ≡ pos 0
  pub steps : advance_steps (table_of 0 0 0) 1 ≡ 6
  pub no_such_steps : advance_steps (table_of 0 0 0) 65536 ≡ 0
  pub no_steps : advance_steps [] 1 ≡ 0
  pub most_steps : MOST_ROW_STEPS ≡ 8192
  pub at_the_default : advance_delta (table_of 0 0 0) [] 0 ≡ pos 0

-- `hasc` has the first row of the store and `hdsc` the second; records of this size stand at 12, the store at 28
abbrev pub lines_of : ℕ → ℕ → List ℕ
lines_of size count = 0 ∷ 1 ∷ 0 ∷ 0 ∷ 0 ∷ 0 ∷ 0 ∷ size ∷ 0 ∷ count ∷ 0 ∷ 28
    ∷ 0x68 ∷ 0x61 ∷ 0x73 ∷ 0x63 ∷ 0 ∷ 0 ∷ 0 ∷ 0 ∷ 0x68 ∷ 0x64 ∷ 0x73 ∷ 0x63 ∷ 0 ∷ 0 ∷ 0 ∷ 1 ∷ store

pub record WorkedLines : Type 0 where
  pub first : line_delta (lines_of 8 2) there 0x68617363 ≡ fin true 395 (negsuc 1)
  pub second : line_delta (lines_of 8 2) there 0x68647363 ≡ fin false 1019 (negsuc 2)
  pub no_record : line_delta (lines_of 8 2) there 0x686c6770 ≡ nothing
  pub past_the_count : line_delta (lines_of 8 1) there 0x68647363 ≡ nothing
  pub records_too_small : line_delta (lines_of 6 2) there 0x68617363 ≡ nothing
  -- 10 records of 8 bytes need 92
  pub cut_off : line_delta (lines_of 8 10) there 0x68617363 ≡ nothing
  pub no_table : line_delta [] there 0x68617363 ≡ nothing

pub worked_deltas : WorkedDeltas
unfolding delta_of part_of delta_in rounded round_with region_scalar axis_scalar i8_of i16_of i32_of tent
    ratio div mul add sum eq to_signed of_int round size span climb units odd count_trailing_zeros of_bits
    of_fields
worked_deltas = record {
  first_row = refl;
  second_row = refl;
  no_such_row = refl;
  no_such_data = refl;
  at_the_default = refl;
  long_words = refl;
  cut_off = refl;
  too_many_wide = refl;
  no_store = refl;
  steps = refl;
  no_steps = refl;
  short_row = refl;
  long_row = refl;
  to_the_nearest = refl;
  down = refl;
  halves_up = refl;
  negative_halves_too = refl;
  just_below_a_half = refl;
}

pub worked_index_maps : WorkedIndexMaps
worked_index_maps = record {
  first = refl;
  second = refl;
  last = refl;
  past_the_last = refl;
  inner_alone = refl;
  three_bytes = refl;
  four_bytes = refl;
  outer_cut = refl;
  format_1 = refl;
  no_map = refl;
  unknown_format = refl;
  cut_off = refl;
}

pub worked_metrics : WorkedMetrics
unfolding metric_delta delta_of part_of delta_in rounded round_with region_scalar axis_scalar i8_of i16_of
    i32_of tent ratio div mul add sum eq to_signed of_int round size span climb units odd count_trailing_zeros
    of_bits of_fields
worked_metrics = record {
  by_glyph = refl;
  by_the_next_glyph = refl;
  by_map = refl;
  bearing = refl;
  no_bearing = refl;
  origin = refl;
  no_origin = refl;
  no_table = refl;
  steps = refl;
  no_such_steps = refl;
  no_steps = refl;
  most_steps = refl;
  at_the_default = refl;
}

pub worked_lines : WorkedLines
unfolding line_delta delta_of part_of delta_in rounded round_with region_scalar axis_scalar i8_of i16_of
    i32_of tent ratio div mul add sum eq to_signed of_int round size span climb units odd count_trailing_zeros
    of_bits of_fields
worked_lines = record {
  first = refl;
  second = refl;
  no_record = refl;
  past_the_count = refl;
  records_too_small = refl;
  cut_off = refl;
  no_table = refl;
}
