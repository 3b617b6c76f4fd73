-- INDEX and DICT data, and whole fonts, on bytes that were read by hand
use Rattle.std.specs.Prelude.{◌≡◌, ℕ, List, [], ◌∷◌, true, false, Some, None, replicate, refl}
use Rattle.cff_tables.specs.Bytes.{number_of, part_of}
use Rattle.cff_tables.specs.Index.{object_count, index_end, range_of, object_of}
use Rattle.cff_tables.specs.Dict.{begins_operand, value_of, operand_of, operator_of, operator_end, values_of, no_values, real_end}
use Rattle.cff_tables.specs.Select
use Rattle.cff_tables.specs.Font.{region_count, cff_layout, cff2_layout}

pub record WorkedNumbers : Type 0 where
  pub one : number_of (1 ∷ 2 ∷ 3 ∷ 4 ∷ 5 ∷ []) 1 1 ≡ 2
  pub two : number_of (1 ∷ 2 ∷ 3 ∷ 4 ∷ 5 ∷ []) 1 2 ≡ 0x203
  pub three : number_of (1 ∷ 2 ∷ 3 ∷ 4 ∷ 5 ∷ []) 1 3 ≡ 0x20304
  pub four : number_of (1 ∷ 2 ∷ 3 ∷ 4 ∷ 5 ∷ []) 1 4 ≡ 0x2030405
  pub past_the_end : number_of (1 ∷ 2 ∷ []) 1 4 ≡ 0x2000000
  pub a_part : part_of (1 ∷ 2 ∷ 3 ∷ []) 1 3 ≡ Some (2 ∷ 3 ∷ [])
  pub an_empty_part : part_of (1 ∷ 2 ∷ 3 ∷ []) 3 3 ≡ Some []
  pub no_part : part_of (1 ∷ 2 ∷ 3 ∷ []) 1 4 ≡ None
  pub turned_part : part_of (1 ∷ 2 ∷ 3 ∷ []) 2 1 ≡ None

-- after one byte: two objects with offsets of one byte, A and BC
abbrev pub two_objects : List ℕ
two_objects = 9 ∷ 0 ∷ 2 ∷ 1 ∷ 1 ∷ 2 ∷ 4 ∷ 65 ∷ 66 ∷ 67 ∷ []

-- the same with a wide count and offsets of two bytes
abbrev pub wide_objects : List ℕ
wide_objects = 0 ∷ 0 ∷ 0 ∷ 2 ∷ 2 ∷ 0 ∷ 1 ∷ 0 ∷ 2 ∷ 0 ∷ 4 ∷ 65 ∷ 66 ∷ 67 ∷ []

pub record WorkedIndex : Type 0 where
  pub count : object_count two_objects false 1 ≡ 2
  pub first : object_of two_objects false 1 0 ≡ Some (65 ∷ [])
  pub second : object_of two_objects false 1 1 ≡ Some (66 ∷ 67 ∷ [])
  pub no_third : object_of two_objects false 1 2 ≡ None
  pub where_it_stands : range_of two_objects false 1 1 ≡ Some (record { from = 8; to = 10 })
  pub end : index_end two_objects false 1 ≡ Some 10
  pub empty : index_end (0 ∷ 0 ∷ []) false 0 ≡ Some 2
  pub cut_off : index_end (0 ∷ 2 ∷ 1 ∷ 1 ∷ 2 ∷ 4 ∷ 65 ∷ 66 ∷ []) false 0 ≡ None
  pub none_past_the_end : object_of (0 ∷ 2 ∷ 1 ∷ 1 ∷ 2 ∷ 4 ∷ 65 ∷ 66 ∷ []) false 0 1 ≡ None
  pub no_room_for_a_count : index_end (0 ∷ []) false 0 ≡ None
  pub offsets_of_five_bytes : index_end (0 ∷ 1 ∷ 5 ∷ replicate 30 0) false 0 ≡ None
  pub offsets_of_no_bytes : index_end (0 ∷ 1 ∷ 0 ∷ replicate 30 0) false 0 ≡ None
  pub offsets_turned : object_of (0 ∷ 2 ∷ 1 ∷ 3 ∷ 2 ∷ 4 ∷ 65 ∷ 66 ∷ 67 ∷ []) false 0 0 ≡ None
  pub past_the_last_offset : object_of (0 ∷ 2 ∷ 1 ∷ 1 ∷ 3 ∷ 2 ∷ 65 ∷ 66 ∷ 67 ∷ []) false 0 0 ≡ None
  pub wide_count : object_count wide_objects true 0 ≡ 2
  pub wide_second : object_of wide_objects true 0 1 ≡ Some (66 ∷ 67 ∷ [])
  pub wide_end : index_end wide_objects true 0 ≡ Some 14

-- the numbers of table 4 of the note, and those at the ends of each range
pub record WorkedOperands : Type 0 where
  pub zero : value_of (0x8B ∷ []) 0 ≡ 0
  pub hundred : value_of (0xEF ∷ []) 0 ≡ 100
  pub minus_hundred : value_of (0x27 ∷ []) 0 ≡ 4294967196
  pub thousand : value_of (0xFA ∷ 0x7C ∷ []) 0 ≡ 1000
  pub minus_thousand : value_of (0xFE ∷ 0x7C ∷ []) 0 ≡ 4294966296
  pub ten_thousand : value_of (0x1C ∷ 0x27 ∷ 0x10 ∷ []) 0 ≡ 10000
  pub minus_ten_thousand : value_of (0x1C ∷ 0xD8 ∷ 0xF0 ∷ []) 0 ≡ 4294957296
  pub hundred_thousand : value_of (0x1D ∷ 0x00 ∷ 0x01 ∷ 0x86 ∷ 0xA0 ∷ []) 0 ≡ 100000
  pub least_byte : value_of (32 ∷ []) 0 ≡ 4294967189
  pub greatest_byte : value_of (246 ∷ []) 0 ≡ 107
  pub least_pair : value_of (247 ∷ 0 ∷ []) 0 ≡ 108
  pub greatest_pair : value_of (250 ∷ 255 ∷ []) 0 ≡ 1131
  pub greatest_below_0 : value_of (251 ∷ 0 ∷ []) 0 ≡ 4294967188
  pub least_below_0 : value_of (254 ∷ 255 ∷ []) 0 ≡ 4294966165
  pub cut_off : operand_of (0x1C ∷ 0x27 ∷ []) 0 ≡ None
  -- -2.25, and 0.140541E-3, by table 5's example
  pub real : operand_of (0x1E ∷ 0xE2 ∷ 0xA2 ∷ 0x5F ∷ []) 0 ≡ Some (record { value = 0; next = 4 })
  pub longer_real : operand_of (0x1E ∷ 0x0A ∷ 0x14 ∷ 0x05 ∷ 0x41 ∷ 0xC3 ∷ 0xFF ∷ []) 0 ≡ Some (record { value = 0; next = 7 })
  pub real_of_an_even_number : operand_of (0x1E ∷ 0x1F ∷ []) 0 ≡ Some (record { value = 0; next = 2 })
  pub ends_in_a_high_nibble : operand_of (0x1E ∷ 0x12 ∷ 0xF0 ∷ 7 ∷ []) 0 ≡ Some (record { value = 0; next = 3 })
  pub reserved_nibble : operand_of (0x1E ∷ 0xD2 ∷ 0x5F ∷ []) 0 ≡ None
  pub reserved_low_nibble : operand_of (0x1E ∷ 0x2D ∷ 0x5F ∷ []) 0 ≡ None
  pub real_without_an_end : operand_of (0x1E ∷ 0x12 ∷ []) 0 ≡ None
  pub real_ends_at_the_end : real_end 0 (0xFF ∷ []) 0 ≡ None
  pub operators : begins_operand 27 ≡ false
  pub first_operand : begins_operand 28 ≡ true
  pub last_real : begins_operand 30 ≡ true
  pub reserved : begins_operand 31 ≡ false
  pub last_operand : begins_operand 254 ≡ true
  pub last_reserved : begins_operand 255 ≡ false

-- Private of 3 bytes at 20, charset 2, CharStrings at 15
abbrev pub some_dict : List ℕ
some_dict = 142 ∷ 159 ∷ 18 ∷ 141 ∷ 15 ∷ 154 ∷ 17 ∷ []

pub record WorkedDicts : Type 0 where
  pub three_operators : values_of some_dict ≡ Some (record no_values { private_len = 3; private_at = 20; charset = 2; char_strings = 15 })
  pub nothing : values_of [] ≡ Some no_values
  pub default_charset : no_values.charset ≡ 0
  pub the_last_counts : values_of (141 ∷ 15 ∷ 142 ∷ 15 ∷ []) ≡ Some (record no_values { charset = 3 })
  pub local_subroutines : values_of (142 ∷ 19 ∷ []) ≡ Some (record no_values { subrs = 3 })
  pub variation_data : values_of (142 ∷ 22 ∷ []) ≡ Some (record no_values { vsindex = 3 })
  pub variation_store : values_of (142 ∷ 24 ∷ []) ≡ Some (record no_values { vstore = 3 })
  pub cid : values_of (142 ∷ 143 ∷ 139 ∷ 12 ∷ 30 ∷ []) ≡ Some (record no_values { cid = true })
  pub font_dicts : values_of (142 ∷ 12 ∷ 36 ∷ 143 ∷ 12 ∷ 37 ∷ []) ≡ Some (record no_values { fd_array = 3; fd_select = 4 })
  pub other_operators : values_of (142 ∷ 0 ∷ 142 ∷ 12 ∷ 7 ∷ 31 ∷ 255 ∷ []) ≡ Some no_values
  pub no_operand : values_of (15 ∷ []) ≡ None
  pub one_of_two_operands : values_of (142 ∷ 18 ∷ []) ≡ None
  pub two_of_three_operands : values_of (142 ∷ 142 ∷ 12 ∷ 30 ∷ []) ≡ None
  pub operands_do_not_stay : values_of (142 ∷ 0 ∷ 15 ∷ []) ≡ None
  pub cut_off : values_of (28 ∷ 1 ∷ []) ≡ None
  pub escape_at_the_end : values_of (12 ∷ []) ≡ Some no_values
  pub two_bytes : operator_of (12 ∷ 30 ∷ []) 0 ≡ 286
  pub after_two_bytes : operator_end (12 ∷ 30 ∷ []) 0 ≡ 2

-- format 0: a byte a glyph; format 3: glyphs 0 to 4 and 5 on; format 4 the same
-- an FDSelect of format 3 with four ranges, and one whose ranges don't rise
abbrev pub four_ranges : List ℕ
four_ranges = 3 ∷ 0 ∷ 4 ∷ 0 ∷ 0 ∷ 5 ∷ 0 ∷ 2 ∷ 6 ∷ 0 ∷ 3 ∷ 7 ∷ 0 ∷ 7 ∷ 8 ∷ 0 ∷ 9 ∷ []

abbrev pub turned_ranges : List ℕ
turned_ranges = 3 ∷ 0 ∷ 4 ∷ 0 ∷ 0 ∷ 5 ∷ 0 ∷ 9 ∷ 6 ∷ 0 ∷ 3 ∷ 7 ∷ 0 ∷ 5 ∷ 8 ∷ 0 ∷ 9 ∷ []

pub record WorkedSelection : Type 0 where
  pub without : Select.fd_of (3 ∷ 3 ∷ 3 ∷ []) 0 1 ≡ 0
  pub listed : Select.fd_of (9 ∷ 0 ∷ 5 ∷ 6 ∷ []) 1 1 ≡ 6
  pub first_range : Select.fd_of (9 ∷ 3 ∷ 0 ∷ 2 ∷ 0 ∷ 0 ∷ 7 ∷ 0 ∷ 5 ∷ 8 ∷ 0 ∷ 9 ∷ []) 1 4 ≡ 7
  pub second_range : Select.fd_of (9 ∷ 3 ∷ 0 ∷ 2 ∷ 0 ∷ 0 ∷ 7 ∷ 0 ∷ 5 ∷ 8 ∷ 0 ∷ 9 ∷ []) 1 5 ≡ 8
  pub wide_first : Select.fd_of (9 ∷ 4 ∷ 0 ∷ 0 ∷ 0 ∷ 2 ∷ 0 ∷ 0 ∷ 0 ∷ 0 ∷ 1 ∷ 7 ∷ 0 ∷ 0 ∷ 0 ∷ 5 ∷ 1 ∷ 8 ∷ 0 ∷ 0 ∷ 0 ∷ 9 ∷ []) 1 4 ≡ 263
  pub wide_second : Select.fd_of (9 ∷ 4 ∷ 0 ∷ 0 ∷ 0 ∷ 2 ∷ 0 ∷ 0 ∷ 0 ∷ 0 ∷ 1 ∷ 7 ∷ 0 ∷ 0 ∷ 0 ∷ 5 ∷ 1 ∷ 8 ∷ 0 ∷ 0 ∷ 0 ∷ 9 ∷ []) 1 5 ≡ 264
  pub another_format : Select.fd_of (9 ∷ 1 ∷ 5 ∷ 6 ∷ []) 1 1 ≡ 0
  -- ranges at 0, 2, 3 and 7
  pub first_of_four : Select.range_of four_ranges 3 0 4 1 ≡ 0
  pub second_of_four : Select.range_of four_ranges 3 0 4 2 ≡ 1
  pub third_of_four : Select.range_of four_ranges 3 0 4 6 ≡ 2
  pub fourth_of_four : Select.range_of four_ranges 3 0 4 7 ≡ 3
  pub last_of_four : Select.range_of four_ranges 3 0 4 200 ≡ 3
  pub walked_third : Select.walked four_ranges 3 0 4 6 ≡ 2
  pub walked_last : Select.walked four_ranges 3 0 4 200 ≡ 3
  pub only_one : Select.range_of four_ranges 3 0 1 200 ≡ 0
  pub no_range : Select.range_of four_ranges 3 0 0 200 ≡ 0
  -- at 0, 9, 3 and 5: a walk stops before the second one, a search asks the third and goes on behind it
  pub out_of_order : Select.range_of turned_ranges 3 0 4 6 ≡ 3
  pub walked_out_of_order : Select.walked turned_ranges 3 0 4 6 ≡ 0
  -- one range is there, and nine are counted: those past the end begin at 0, and the last one has Font DICT 0
  pub counted_past_the_end : Select.fd_of (9 ∷ 3 ∷ 0 ∷ 9 ∷ 0 ∷ 0 ∷ 7 ∷ []) 1 4 ≡ 0

-- a font of two glyphs, .notdef and A: header, the name F, a Top DICT (charset at 26, Private of 2 bytes at 37, CharStrings at 29), no
-- strings, no global subroutines, the charset, charstrings, and a Private DICT by which subroutines stand 2 bytes on: one of one byte
abbrev pub small_font : List ℕ
small_font = 1 ∷ 0 ∷ 4 ∷ 1 ∷ 0 ∷ 1 ∷ 1 ∷ 1 ∷ 2 ∷ 70 ∷ 0 ∷ 1 ∷ 1 ∷ 1 ∷ 8 ∷ 165 ∷ 15 ∷ 141 ∷ 176 ∷ 18 ∷ 168 ∷ 17
    ∷ 0 ∷ 0 ∷ 0 ∷ 0 ∷ 0 ∷ 0 ∷ 34 ∷ 0 ∷ 2 ∷ 1 ∷ 1 ∷ 2 ∷ 3 ∷ 14 ∷ 14 ∷ 141 ∷ 19 ∷ 0 ∷ 1 ∷ 1 ∷ 1 ∷ 2 ∷ 11 ∷ []

-- a font of one glyph in CFF2: header of 5 bytes, a Top DICT of 5 (CharStrings at 14, FDArray at 21), no global subroutines, a
-- charstring, and one Font DICT without operators
abbrev pub small_wide_font : List ℕ
small_wide_font = 2 ∷ 0 ∷ 5 ∷ 0 ∷ 5 ∷ 153 ∷ 17 ∷ 161 ∷ 12 ∷ 36 ∷ 0 ∷ 0 ∷ 0 ∷ 0 ∷ 0 ∷ 0 ∷ 0 ∷ 1 ∷ 1 ∷ 1 ∷ 2 ∷ 139 ∷ 0 ∷ 0 ∷ 0 ∷ 1 ∷ 1 ∷ 1 ∷ 1 ∷ []

pub record WorkedFonts : Type 0 where
  pub too_short : cff_layout (1 ∷ 0 ∷ 4 ∷ 1 ∷ []) 1 ≡ None
  pub another_version : cff_layout (2 ∷ 0 ∷ 4 ∷ 1 ∷ []) 1 ≡ None
  pub narrow : cff_layout small_font 2 ≡ Some (record {
    wide = false;
    cid = false;
    glyph_count = 2;
    char_strings = 29;
    global = 24;
    local = 39;
    charset = 26;
    strings = 22;
    fd_array = 0;
    fd_select = 0;
    vstore = 0;
  })
  pub other_narrow_count : cff_layout small_font 3 ≡ None
  pub not_wide : cff2_layout small_font 2 ≡ None
  pub wide : cff2_layout small_wide_font 1 ≡ Some (record {
    wide = true;
    cid = false;
    glyph_count = 1;
    char_strings = 14;
    global = 10;
    local = 0;
    charset = 0;
    strings = 0;
    fd_array = 22;
    fd_select = 0;
    vstore = 0;
  })
  pub other_count : cff2_layout small_wide_font 2 ≡ None
  -- a store at 0 .. none; at 2: two bytes of length, format, regions at 0, one block at 12 with two regions
  pub no_store : region_count (1 ∷ []) 0 0 ≡ 0
  pub two_regions : region_count (0 ∷ 0 ∷ 0 ∷ 0 ∷ 0 ∷ 1 ∷ 0 ∷ 0 ∷ 0 ∷ 0 ∷ 0 ∷ 1 ∷ 0 ∷ 0 ∷ 0 ∷ 12 ∷ 0 ∷ 0 ∷ 0 ∷ 0 ∷ 0 ∷ 2 ∷ []) 2 0 ≡ 2
  pub no_second_block : region_count (0 ∷ 0 ∷ 0 ∷ 0 ∷ 0 ∷ 1 ∷ 0 ∷ 0 ∷ 0 ∷ 0 ∷ 0 ∷ 1 ∷ 0 ∷ 0 ∷ 0 ∷ 12 ∷ 0 ∷ 0 ∷ 0 ∷ 0 ∷ 0 ∷ 2 ∷ []) 2 1 ≡ 0

pub worked_numbers : WorkedNumbers
worked_numbers = record {
  one = refl;
  two = refl;
  three = refl;
  four = refl;
  past_the_end = refl;
  a_part = refl;
  an_empty_part = refl;
  no_part = refl;
  turned_part = refl;
}

pub worked_index : WorkedIndex
worked_index = record {
  count = refl;
  first = refl;
  second = refl;
  no_third = refl;
  where_it_stands = refl;
  end = refl;
  empty = refl;
  cut_off = refl;
  none_past_the_end = refl;
  no_room_for_a_count = refl;
  offsets_of_five_bytes = refl;
  offsets_of_no_bytes = refl;
  offsets_turned = refl;
  past_the_last_offset = refl;
  wide_count = refl;
  wide_second = refl;
  wide_end = refl;
}

pub worked_operands : WorkedOperands
worked_operands = record {
  zero = refl;
  hundred = refl;
  minus_hundred = refl;
  thousand = refl;
  minus_thousand = refl;
  ten_thousand = refl;
  minus_ten_thousand = refl;
  hundred_thousand = refl;
  least_byte = refl;
  greatest_byte = refl;
  least_pair = refl;
  greatest_pair = refl;
  greatest_below_0 = refl;
  least_below_0 = refl;
  cut_off = refl;
  real = refl;
  longer_real = refl;
  real_of_an_even_number = refl;
  ends_in_a_high_nibble = refl;
  reserved_nibble = refl;
  reserved_low_nibble = refl;
  real_without_an_end = refl;
  real_ends_at_the_end = refl;
  operators = refl;
  first_operand = refl;
  last_real = refl;
  reserved = refl;
  last_operand = refl;
  last_reserved = refl;
}

pub worked_dicts : WorkedDicts
worked_dicts = record {
  three_operators = refl;
  nothing = refl;
  default_charset = refl;
  the_last_counts = refl;
  local_subroutines = refl;
  variation_data = refl;
  variation_store = refl;
  cid = refl;
  font_dicts = refl;
  other_operators = refl;
  no_operand = refl;
  one_of_two_operands = refl;
  two_of_three_operands = refl;
  operands_do_not_stay = refl;
  cut_off = refl;
  escape_at_the_end = refl;
  two_bytes = refl;
  after_two_bytes = refl;
}

pub worked_selection : WorkedSelection
worked_selection = record {
  without = refl;
  listed = refl;
  first_range = refl;
  second_range = refl;
  wide_first = refl;
  wide_second = refl;
  another_format = refl;
  first_of_four = refl;
  second_of_four = refl;
  third_of_four = refl;
  fourth_of_four = refl;
  last_of_four = refl;
  walked_third = refl;
  walked_last = refl;
  only_one = refl;
  no_range = refl;
  out_of_order = refl;
  walked_out_of_order = refl;
  counted_past_the_end = refl;
}

pub worked_fonts : WorkedFonts
worked_fonts = record {
  too_short = refl;
  another_version = refl;
  narrow = refl;
  other_narrow_count = refl;
  not_wide = refl;
  wide = refl;
  other_count = refl;
  no_store = refl;
  two_regions = refl;
  no_second_block = refl;
}
