-- `CBLC` and `CBDT` on bytes that were read by hand
use Rattle.std.specs.Prelude.{◌≡◌, ℕ, ℤ, pos, negsuc, List, [], ◌∷◌, ◌++◌, Option, Some, None, true, false, refl}
use Rattle.std.specs.Float.{Float, fin, round_with}
use lib.Count.{count_trailing_zeros}
use lib.Ieee.{round, size, span, climb, units, odd, of_bits, of_fields, of_int, div, mul, add, sum, to_signed}
use Rattle.font_bytes.specs.Bytes.{i8_of, i16_of}
use Rattle.font_variations.specs.Deltas.{rounded}
use Rattle.bitmap_tables.specs.Boxes.{scaled}
use Rattle.bitmap_tables.specs.Cblc.{is_read, strike_count, pixels_of, largest_strike, holds, record_from, offset_of, image_of}
use Rattle.bitmap_tables.specs.Cbdt.{header_size, is_whole, metrics_box, cbdt_box}
use Rattle.bitmap_tables.specs.Sbix.{ppem_of, graphic_of, strike_box, box_in}
use Rattle.bitmap_tables.specs.Tables.{bitmap_box}
use Rattle.bitmap_tables.specs.Worked.Strikes.{box, two_strikes}
use Rattle.bitmap_tables.specs.declared.tables.Bitmaps.{Bitmaps}

-- what a strike says between the number of its subtables and its pixels: colours, measures of lines, first and last glyph
abbrev pub measures : List ℕ
measures = 0 ∷ 0 ∷ 0 ∷ 0 ∷ 0 ∷ 0 ∷ 0 ∷ 0 ∷ 0 ∷ 0 ∷ 0 ∷ 0 ∷ 0 ∷ 0 ∷ 0 ∷ 0 ∷ 0 ∷ 0 ∷ 0 ∷ 0 ∷ 0 ∷ 0 ∷ 0 ∷ 0 ∷ 0 ∷ 0 ∷ 0 ∷ 0 ∷ 0 ∷ 9 ∷ 0 ∷ 9 ∷ []

-- a strike with two subtables at 104, and so many pixels across and upwards
abbrev pub strike : ℕ → ℕ → List ℕ
strike across upwards = (0 ∷ 0 ∷ 0 ∷ 104 ∷ 0 ∷ 0 ∷ 0 ∷ 52 ∷ 0 ∷ 0 ∷ 0 ∷ 2 ∷ []) ++ measures ++ (across ∷ upwards ∷ 32 ∷ 1 ∷ [])

-- subtables for glyphs 3 to 4 at 120 and 5 to 7 at 140
abbrev pub records : List ℕ
records = 0 ∷ 3 ∷ 0 ∷ 4 ∷ 0 ∷ 0 ∷ 0 ∷ 16 ∷ 0 ∷ 5 ∷ 0 ∷ 7 ∷ 0 ∷ 0 ∷ 0 ∷ 36 ∷ []

-- format 1, of images in format 17 from 4 on: glyph 3 has 20 bytes, glyph 4 none
abbrev pub long_offsets : List ℕ
long_offsets = 0 ∷ 1 ∷ 0 ∷ 17 ∷ 0 ∷ 0 ∷ 0 ∷ 4 ∷ 0 ∷ 0 ∷ 0 ∷ 0 ∷ 0 ∷ 0 ∷ 0 ∷ 20 ∷ 0 ∷ 0 ∷ 0 ∷ 20 ∷ []

-- format 3, of images in format 18 from 24 on: glyph 5 has 12 bytes, glyph 6 has 11, glyph 7 has 12
abbrev pub short_offsets : List ℕ
short_offsets = 0 ∷ 3 ∷ 0 ∷ 18 ∷ 0 ∷ 0 ∷ 0 ∷ 24 ∷ 0 ∷ 0 ∷ 0 ∷ 12 ∷ 0 ∷ 23 ∷ 0 ∷ 35 ∷ []

-- strikes of 20 pixels, and of so many
abbrev pub two_sizes : ℕ → ℕ → ℕ → List ℕ
two_sizes version across upwards = (0 ∷ version ∷ 0 ∷ 0 ∷ 0 ∷ 0 ∷ 0 ∷ 2 ∷ []) ++ strike 20 20 ++ strike across upwards
    ++ records ++ long_offsets ++ short_offsets

abbrev pub cblc : List ℕ
cblc = two_sizes 3 100 50

-- one strike, which says how many subtables it has: glyph 3, and what follows; each begins at 56 with the records themselves
abbrev pub one_size : ℕ → List ℕ → List ℕ
one_size said rest = (0 ∷ 3 ∷ 0 ∷ 0 ∷ 0 ∷ 0 ∷ 0 ∷ 1 ∷ 0 ∷ 0 ∷ 0 ∷ 56 ∷ 0 ∷ 0 ∷ 0 ∷ 16 ∷ 0 ∷ 0 ∷ 0 ∷ said ∷ []) ++ measures
    ++ (9 ∷ 9 ∷ 32 ∷ 1 ∷ 0 ∷ 3 ∷ 0 ∷ 3 ∷ 0 ∷ 0 ∷ 0 ∷ 0 ∷ []) ++ rest

-- glyphs 4 and 5; and glyphs 0 to 5, with a byte cut off
abbrev pub whole_record : List ℕ
whole_record = 0 ∷ 4 ∷ 0 ∷ 5 ∷ 0 ∷ 0 ∷ 0 ∷ 0 ∷ []

abbrev pub cut_record : List ℕ
cut_record = 0 ∷ 0 ∷ 0 ∷ 5 ∷ 0 ∷ 0 ∷ 0 ∷ []

-- height 10, width 20, and bearings -2 and 9; height 5, width 6, and bearings 1 and -5
abbrev pub first_image : List ℕ
first_image = 10 ∷ 20 ∷ 254 ∷ 9 ∷ 21 ∷ 0 ∷ 0 ∷ 0 ∷ 11 ∷ 0 ∷ 0 ∷ 0 ∷ 0 ∷ 0 ∷ 0 ∷ 0 ∷ 0 ∷ 0 ∷ 0 ∷ 0 ∷ []

abbrev pub second_image : List ℕ
second_image = 5 ∷ 6 ∷ 1 ∷ 251 ∷ 7 ∷ 0 ∷ 0 ∷ 0 ∷ 0 ∷ 0 ∷ 0 ∷ 0 ∷ []

-- of the images of glyphs 6 and 7 the last byte is cut off
abbrev pub cbdt_of : ℕ → List ℕ
cbdt_of version = (0 ∷ version ∷ 0 ∷ 0 ∷ []) ++ first_image ++ second_image
    ++ (5 ∷ 6 ∷ 1 ∷ 251 ∷ 7 ∷ 0 ∷ 0 ∷ 0 ∷ 0 ∷ 0 ∷ 0 ∷ 5 ∷ 6 ∷ 1 ∷ 251 ∷ 7 ∷ 0 ∷ 0 ∷ 0 ∷ 0 ∷ 0 ∷ 0 ∷ [])

abbrev pub cbdt : List ℕ
cbdt = cbdt_of 3

pub record WorkedImages : Type 0 where
  pub version_1 : is_read (0 ∷ 1 ∷ []) ≡ false
  pub version_2 : is_read (0 ∷ 2 ∷ []) ≡ true
  pub version_3 : is_read (0 ∷ 3 ∷ []) ≡ true
  pub version_4 : is_read (0 ∷ 4 ∷ []) ≡ false
  pub strikes : strike_count cblc ≡ 2
  pub room_for_one : strike_count (0 ∷ 3 ∷ 0 ∷ 0 ∷ 0 ∷ 0 ∷ 0 ∷ 2 ∷ strike 20 20) ≡ 1
  -- 95 bytes after the first eight
  pub no_room_for_two : strike_count ((0 ∷ 3 ∷ 0 ∷ 0 ∷ 0 ∷ 0 ∷ 0 ∷ 2 ∷ []) ++ strike 20 20 ++ measures
      ++ (0 ∷ 0 ∷ 0 ∷ 0 ∷ 0 ∷ 0 ∷ 0 ∷ 0 ∷ 0 ∷ 0 ∷ 0 ∷ 0 ∷ 0 ∷ 0 ∷ 0 ∷ [])) ≡ 1
  pub greater_side : pixels_of cblc 1 ≡ 100
  pub most_pixels : largest_strike cblc ≡ 1
  pub before_the_first : holds cblc 104 2 0 ≡ false
  pub first : holds cblc 104 3 0 ≡ true
  pub last : holds cblc 104 4 0 ≡ true
  pub past_the_last : holds cblc 104 5 0 ≡ false
  pub second : record_from cblc 104 5 2 0 ≡ Some 1
  pub none_of_one : record_from cblc 104 5 1 0 ≡ None
  -- both are for glyph 4
  pub first_of_two : record_from (0 ∷ 4 ∷ 0 ∷ 4 ∷ 0 ∷ 0 ∷ 0 ∷ 16 ∷ 0 ∷ 3 ∷ 0 ∷ 7 ∷ 0 ∷ 0 ∷ 0 ∷ 36 ∷ []) 0 4 2 0 ≡ Some 0
  pub long_offset : offset_of cblc 120 1 ≡ 20
  pub short_offset : offset_of cblc 140 2 ≡ 23
  pub no_offset : offset_of (0 ∷ 2 ∷ 0 ∷ 17 ∷ 0 ∷ 0 ∷ 0 ∷ 4 ∷ 0 ∷ 7 ∷ 0 ∷ 20 ∷ []) 0 0 ≡ 0
  pub no_format : offset_of (0 ∷ 0 ∷ 0 ∷ 17 ∷ 0 ∷ 0 ∷ 0 ∷ 4 ∷ 0 ∷ 7 ∷ 0 ∷ 20 ∷ []) 0 0 ≡ 0
  pub by_long_offsets : image_of cblc 1 3 ≡ Some (record { start = 4; length = 20; format = 17 })
  pub without_bytes : image_of cblc 1 4 ≡ None
  pub by_short_offsets : image_of cblc 1 6 ≡ Some (record { start = 36; length = 11; format = 18 })
  pub of_no_subtable : image_of cblc 1 8 ≡ None
  pub first_that_is_said : image_of (one_size 1 whole_record) 0 3 ≡ Some (record { start = 4; length = 1; format = 3 })
  pub not_said : image_of (one_size 1 whole_record) 0 4 ≡ None
  pub second_that_is_said : image_of (one_size 2 whole_record) 0 4 ≡ Some (record { start = 4; length = 1; format = 3 })
  pub no_room_for_the_second : image_of (one_size 2 cut_record) 0 0 ≡ None

pub record WorkedBitmaps : Type 0 where
  pub small_metrics : header_size 17 ≡ Some 9
  pub big_metrics : header_size 18 ≡ Some 12
  pub no_metrics : header_size 19 ≡ None
  pub other_format : header_size 16 ≡ None
  pub whole : is_whole (1 ∷ 2 ∷ 3 ∷ 4 ∷ 5 ∷ 6 ∷ 7 ∷ 8 ∷ 9 ∷ 10 ∷ []) (record { start = 1; length = 9; format = 17 }) ≡ true
  pub past_the_end : is_whole (1 ∷ 2 ∷ 3 ∷ 4 ∷ 5 ∷ 6 ∷ 7 ∷ 8 ∷ 9 ∷ 10 ∷ []) (record { start = 2; length = 9; format = 17 }) ≡ false
  pub metrics_cut_off : is_whole (1 ∷ 2 ∷ 3 ∷ 4 ∷ 5 ∷ 6 ∷ 7 ∷ 8 ∷ 9 ∷ 10 ∷ []) (record { start = 1; length = 8; format = 17 }) ≡ false
  pub without_metrics : is_whole (1 ∷ 2 ∷ 3 ∷ 4 ∷ 5 ∷ 6 ∷ 7 ∷ 8 ∷ 9 ∷ 10 ∷ []) (record { start = 1; length = 9; format = 19 }) ≡ false
  pub metrics : metrics_box cbdt 4 ≡ box (negsuc 1) (pos 9) (pos 20) (negsuc 9)
  -- a pixel is 10 units wide and 20 high
  pub format_17 : cbdt_box cblc cbdt 1000 3 ≡ Some (box (negsuc 19) (pos 180) (pos 200) (negsuc 199))
  pub format_18 : cbdt_box cblc cbdt 1000 5 ≡ Some (box (pos 10) (negsuc 99) (pos 60) (negsuc 99))
  pub too_short : cbdt_box cblc cbdt 1000 6 ≡ None
  pub cut_off : cbdt_box cblc cbdt 1000 7 ≡ None
  pub no_bitmap : cbdt_box cblc cbdt 1000 2 ≡ None
  pub no_pixels_across : cbdt_box (two_sizes 3 0 50) cbdt 1000 3 ≡ None
  pub no_pixels_upwards : cbdt_box (two_sizes 3 50 0) cbdt 1000 3 ≡ None
  pub other_version : cbdt_box (two_sizes 4 100 50) cbdt 1000 3 ≡ None
  pub other_version_of_data : cbdt_box cblc (cbdt_of 4) 1000 3 ≡ None
  pub no_strikes : cbdt_box (0 ∷ 3 ∷ 0 ∷ 0 ∷ 0 ∷ 0 ∷ 0 ∷ 0 ∷ []) cbdt 1000 3 ≡ None
  -- glyph 1 of the font has an image in `sbix`, glyph 3 has none there
  pub apples_first : (b : Bitmaps) → b.sbix.now ≡ two_strikes 1 2
      → bitmap_box b 2 1000 1 ≡ Some (box (negsuc 49) (pos 670) (pos 500) (negsuc 599))
  pub then_the_other : (b : Bitmaps) → b.sbix.now ≡ two_strikes 1 2 → b.cblc.now ≡ cblc → b.cbdt.now ≡ cbdt
      → bitmap_box b 2 1000 3 ≡ Some (box (negsuc 19) (pos 180) (pos 200) (negsuc 199))

pub worked_images : WorkedImages
worked_images = record {
  version_1 = refl;
  version_2 = refl;
  version_3 = refl;
  version_4 = refl;
  strikes = refl;
  room_for_one = refl;
  no_room_for_two = refl;
  greater_side = refl;
  most_pixels = refl;
  before_the_first = refl;
  first = refl;
  last = refl;
  past_the_last = refl;
  second = refl;
  none_of_one = refl;
  first_of_two = refl;
  long_offset = refl;
  short_offset = refl;
  no_offset = refl;
  no_format = refl;
  by_long_offsets = refl;
  without_bytes = refl;
  by_short_offsets = refl;
  of_no_subtable = refl;
  first_that_is_said = refl;
  not_said = refl;
  second_that_is_said = refl;
  no_room_for_the_second = refl;
}

pub worked_bitmaps : WorkedBitmaps
unfolding ppem_of graphic_of strike_box box_in i8_of i16_of scaled rounded round_with div mul add sum to_signed of_int round size span climb
    units odd count_trailing_zeros of_bits of_fields
worked_bitmaps = record {
  small_metrics = refl;
  big_metrics = refl;
  no_metrics = refl;
  other_format = refl;
  whole = refl;
  past_the_end = refl;
  metrics_cut_off = refl;
  without_metrics = refl;
  metrics = refl;
  format_17 = refl;
  format_18 = refl;
  too_short = refl;
  cut_off = refl;
  no_bitmap = refl;
  no_pixels_across = refl;
  no_pixels_upwards = refl;
  other_version = refl;
  other_version_of_data = refl;
  no_strikes = refl;
  apples_first = λ b s. rw s refl;
  then_the_other = λ b s l d. rw (s, l, d) refl;
}
