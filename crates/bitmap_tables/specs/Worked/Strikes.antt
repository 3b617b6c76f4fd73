-- `sbix` on bytes that were read by hand, and boxes in units of the font
use Rattle.std.specs.Prelude.{◌≡◌, ℕ, ℤ, pos, negsuc, List, [], ◌∷◌, ◌++◌, Option, Some, None, refl, false, slice_index}
use Rattle.std.specs.Float.{Float, fin, round_with}
use lib.Count.{count_trailing_zeros}
use lib.Ieee.{round, size, span, climb, units, odd, of_bits, of_fields, of_int, div, mul, add, sum, to_signed}
use Rattle.font_bytes.specs.Bytes.{i16_of}
use Rattle.font_variations.specs.Deltas.{rounded}
use Rattle.shape_common.specs.declared.face.hb_glyph_extents_t.{hb_glyph_extents_t}
use Rattle.bitmap_tables.specs.Boxes.{scaled}
use Rattle.bitmap_tables.specs.Strikes.{largest, looked_at}
use Rattle.bitmap_tables.specs.Sbix.{strike_count, ppem_of, largest_strike, bytes_between, glyph_bytes, graphic_within, png_box, box_if_png}
use Rattle.bitmap_tables.specs.Sbix.{graphic_of, strike_box, box_in, sbix_box}

abbrev pub box : ℤ → ℤ → ℤ → ℤ → hb_glyph_extents_t
box x y width height = record { x_bearing = x; y_bearing = y; width = width; height = height }

pub record WorkedScales : Type 0 where
  pub tenfold : scaled 1000 100 (pos 67) ≡ pos 670
  pub below_0 : scaled 1000 100 (negsuc 59) ≡ negsuc 599
  -- a pixel is 62.5 units
  pub half_upwards : scaled 1000 16 (pos 1) ≡ pos 63
  pub half_below_0 : scaled 1000 16 (negsuc 0) ≡ negsuc 61
  -- a pixel is 10.41667 units, and three are 31.25
  pub down : scaled 1000 96 (pos 3) ≡ pos 31
  pub smaller : scaled 100 1000 (pos 14) ≡ pos 1

pub record WorkedStrikes : Type 0 where
  pub most_pixels : largest (slice_index (20 ∷ 100 ∷ 50 ∷ [])) 3 ≡ 1
  pub first_of_two : largest (slice_index (20 ∷ 100 ∷ 100 ∷ [])) 3 ≡ 1
  pub no_more_than_there_are : largest (slice_index (20 ∷ 100 ∷ [])) 1 ≡ 0
  pub last : largest (slice_index (20 ∷ 100 ∷ 101 ∷ [])) 3 ≡ 2
  pub none : largest (slice_index []) 0 ≡ 0
  pub all_looked_at : looked_at 4096 ≡ 4096
  pub no_more_looked_at : looked_at 4097 ≡ 4096

-- two offsets, -5 and 7; then the type
abbrev pub graphic : List ℕ → List ℕ
graphic type = 255 ∷ 251 ∷ 0 ∷ 7 ∷ type

abbrev pub png_type : List ℕ
png_type = 112 ∷ 110 ∷ 103 ∷ 32 ∷ []

-- what stands before the width, and what after the height
abbrev pub before_width : List ℕ
before_width = 137 ∷ 80 ∷ 78 ∷ 71 ∷ 13 ∷ 10 ∷ 26 ∷ 10 ∷ 0 ∷ 0 ∷ 0 ∷ 13 ∷ 73 ∷ 72 ∷ 68 ∷ 82 ∷ []

abbrev pub after_height : List ℕ
after_height = 8 ∷ 6 ∷ 0 ∷ 0 ∷ 0 ∷ []

abbrev pub png : List ℕ → List ℕ
png sides = graphic png_type ++ before_width ++ sides ++ after_height

-- 50 pixels wide and 60 high
abbrev pub small_png : List ℕ
small_png = png (0 ∷ 0 ∷ 0 ∷ 50 ∷ 0 ∷ 0 ∷ 0 ∷ 60 ∷ [])

-- the image of the glyph with this number
abbrev pub same_as : ℕ → List ℕ
same_as glyph = 0 ∷ 0 ∷ 0 ∷ 0 ∷ 100 ∷ 117 ∷ 112 ∷ 101 ∷ 0 ∷ glyph ∷ []

-- a strike of 20 pixels without images at 16, and one of 100 pixels at 32: glyph 0 has a PNG of 37 bytes, glyph 1 the same
abbrev pub strike_bytes : List ℕ
strike_bytes = 0 ∷ 20 ∷ 0 ∷ 72 ∷ 0 ∷ 0 ∷ 0 ∷ 16 ∷ 0 ∷ 0 ∷ 0 ∷ 16 ∷ 0 ∷ 0 ∷ 0 ∷ 16
    ∷ 0 ∷ 100 ∷ 0 ∷ 72 ∷ 0 ∷ 0 ∷ 0 ∷ 16 ∷ 0 ∷ 0 ∷ 0 ∷ 53 ∷ 0 ∷ 0 ∷ 0 ∷ 63 ∷ []

abbrev pub two_strikes : ℕ → ℕ → List ℕ
two_strikes version said = (0 ∷ version ∷ 0 ∷ 1 ∷ 0 ∷ 0 ∷ 0 ∷ said ∷ 0 ∷ 0 ∷ 0 ∷ 16 ∷ 0 ∷ 0 ∷ 0 ∷ 32 ∷ []) ++ strike_bytes ++ small_png ++ same_as 0

-- ten glyphs in a strike at 0: glyph 0 has a PNG without a header, each other one the image of the one before it
abbrev pub chain : List ℕ
chain = (0 ∷ 100 ∷ 0 ∷ 72 ∷ 0 ∷ 0 ∷ 0 ∷ 48 ∷ 0 ∷ 0 ∷ 0 ∷ 58 ∷ 0 ∷ 0 ∷ 0 ∷ 68 ∷ 0 ∷ 0 ∷ 0 ∷ 78 ∷ 0 ∷ 0 ∷ 0 ∷ 88 ∷ 0 ∷ 0 ∷ 0 ∷ 98
    ∷ 0 ∷ 0 ∷ 0 ∷ 108 ∷ 0 ∷ 0 ∷ 0 ∷ 118 ∷ 0 ∷ 0 ∷ 0 ∷ 128 ∷ 0 ∷ 0 ∷ 0 ∷ 138 ∷ 0 ∷ 0 ∷ 0 ∷ 148 ∷ [])
    ++ graphic png_type ++ (0 ∷ 0 ∷ []) ++ same_as 0 ++ same_as 1 ++ same_as 2 ++ same_as 3 ++ same_as 4
    ++ same_as 5 ++ same_as 6 ++ same_as 7 ++ same_as 8

-- one strike of so many pixels, with a PNG without a header, in a table of this version
abbrev pub one_strike : ℕ → ℕ → ℕ → List ℕ
one_strike upper lower ppem = (upper ∷ lower ∷ 0 ∷ 1 ∷ 0 ∷ 0 ∷ 0 ∷ 1 ∷ 0 ∷ 0 ∷ 0 ∷ 12 ∷ 0 ∷ ppem ∷ 0 ∷ 72 ∷ 0 ∷ 0 ∷ 0 ∷ 12 ∷ 0 ∷ 0 ∷ 0 ∷ 22 ∷ [])
    ++ graphic png_type ++ (0 ∷ 0 ∷ [])

-- glyph 1 has the image of another one, whose number is cut off
abbrev pub cut_name : List ℕ
cut_name = (0 ∷ 100 ∷ 0 ∷ 72 ∷ 0 ∷ 0 ∷ 0 ∷ 16 ∷ 0 ∷ 0 ∷ 0 ∷ 26 ∷ 0 ∷ 0 ∷ 0 ∷ 35 ∷ []) ++ graphic png_type ++ (0 ∷ 0 ∷ [])
    ++ graphic (100 ∷ 117 ∷ 112 ∷ 101 ∷ []) ++ (0 ∷ [])

pub record WorkedSbix : Type 0 where
  pub strikes : strike_count (two_strikes 1 2) ≡ 2
  pub room_for_one : strike_count (0 ∷ 1 ∷ 0 ∷ 1 ∷ 0 ∷ 0 ∷ 0 ∷ 2 ∷ 0 ∷ 0 ∷ 0 ∷ 16 ∷ []) ≡ 1
  pub no_room_for_two : strike_count (0 ∷ 1 ∷ 0 ∷ 1 ∷ 0 ∷ 0 ∷ 0 ∷ 2 ∷ 0 ∷ 0 ∷ 0 ∷ 16 ∷ 0 ∷ 0 ∷ 0 ∷ []) ≡ 1
  pub most_pixels : largest_strike (two_strikes 1 2) 2 ≡ 1
  pub room_for_offsets : ppem_of (two_strikes 1 2) 2 1 ≡ 100
  -- 95 bytes: a strike at 32 has room for the offsets of 13 glyphs, and not of 14
  pub just_room : ppem_of (two_strikes 1 2) 13 1 ≡ 100
  pub no_room_for_offsets : ppem_of (two_strikes 1 2) 14 1 ≡ 0
  pub up_to_the_end : ppem_of (0 ∷ 1 ∷ 0 ∷ 1 ∷ 0 ∷ 0 ∷ 0 ∷ 1 ∷ 0 ∷ 0 ∷ 0 ∷ 12 ∷ 0 ∷ 100 ∷ 0 ∷ 72 ∷ 0 ∷ 0 ∷ 0 ∷ 0 ∷ []) 0 0 ≡ 100
  pub strike_at_1 : ppem_of (0 ∷ 1 ∷ 0 ∷ 1 ∷ 0 ∷ 0 ∷ 0 ∷ 1 ∷ 0 ∷ 0 ∷ 0 ∷ 1 ∷ []) 0 0 ≡ 256
  pub no_strike_at_0 : ppem_of (0 ∷ 1 ∷ 0 ∷ 1 ∷ 0 ∷ 0 ∷ 0 ∷ 1 ∷ 0 ∷ 0 ∷ 0 ∷ 0 ∷ []) 0 0 ≡ 0
  pub bytes : bytes_between (1 ∷ 2 ∷ 3 ∷ 4 ∷ 5 ∷ 6 ∷ 7 ∷ 8 ∷ 9 ∷ 10 ∷ 11 ∷ []) 1 1 10 ≡ Some (3 ∷ 4 ∷ 5 ∷ 6 ∷ 7 ∷ 8 ∷ 9 ∷ 10 ∷ 11 ∷ [])
  pub past_the_end : bytes_between (1 ∷ 2 ∷ 3 ∷ 4 ∷ 5 ∷ 6 ∷ 7 ∷ 8 ∷ 9 ∷ 10 ∷ 11 ∷ []) 1 1 11 ≡ None
  pub header_alone : bytes_between (1 ∷ 2 ∷ 3 ∷ 4 ∷ 5 ∷ 6 ∷ 7 ∷ 8 ∷ 9 ∷ 10 ∷ 11 ∷ []) 1 1 9 ≡ None
  pub past_the_last_glyph : glyph_bytes chain 0 9 9 ≡ None
  pub last_glyph : glyph_bytes (two_strikes 1 2) 32 2 1 ≡ Some (same_as 0)
  pub sides : png_box small_png ≡ Some (box (negsuc 4) (pos 67) (pos 50) (negsuc 59))
  pub widest : png_box (png (0 ∷ 0 ∷ 255 ∷ 255 ∷ 0 ∷ 0 ∷ 0 ∷ 0 ∷ [])) ≡ Some (box (negsuc 4) (pos 7) (pos 65535) (pos 0))
  pub highest : png_box (png (0 ∷ 0 ∷ 0 ∷ 0 ∷ 0 ∷ 0 ∷ 255 ∷ 255 ∷ [])) ≡ Some (box (negsuc 4) (pos 65542) (pos 0) (negsuc 65534))
  pub too_wide : png_box (png (0 ∷ 1 ∷ 0 ∷ 0 ∷ 0 ∷ 0 ∷ 0 ∷ 60 ∷ [])) ≡ None
  pub too_high : png_box (png (0 ∷ 0 ∷ 0 ∷ 50 ∷ 0 ∷ 1 ∷ 0 ∷ 0 ∷ [])) ≡ None
  -- 36 bytes
  pub header_cut_off : png_box (graphic png_type ++ before_width ++ (0 ∷ 0 ∷ 0 ∷ 50 ∷ 0 ∷ 0 ∷ 0 ∷ 60 ∷ 8 ∷ 6 ∷ 0 ∷ 0 ∷ []))
      ≡ Some (box (negsuc 4) (pos 7) (pos 0) (pos 0))
  pub no_png : box_if_png (graphic (106 ∷ 112 ∷ 103 ∷ 32 ∷ [])) ≡ None
  -- of a type that comes before `dupe`
  pub other_type : graphic_within 9 ((0 ∷ 100 ∷ 0 ∷ 72 ∷ 0 ∷ 0 ∷ 0 ∷ 12 ∷ 0 ∷ 0 ∷ 0 ∷ 21 ∷ []) ++ graphic (97 ∷ 97 ∷ 97 ∷ 97 ∷ []) ++ (0 ∷ [])) 0 1 0
      ≡ Some (graphic (97 ∷ 97 ∷ 97 ∷ 97 ∷ []) ++ (0 ∷ []))
  pub number_cut_off : strike_box cut_name 0 2 1 ≡ None
  pub eight_others : strike_box chain 0 10 8 ≡ Some (box (negsuc 4) (pos 7) (pos 0) (pos 0))
  pub nine_others : strike_box chain 0 10 9 ≡ None
  pub own : sbix_box (two_strikes 1 2) 2 1000 0 ≡ Some (box (negsuc 49) (pos 670) (pos 500) (negsuc 599))
  pub same : sbix_box (two_strikes 1 2) 2 1000 1 ≡ Some (box (negsuc 49) (pos 670) (pos 500) (negsuc 599))
  pub in_the_largest_alone : sbix_box (two_strikes 1 1) 2 1000 0 ≡ None
  pub version_256 : sbix_box (one_strike 1 0 1) 1 1000 0 ≡ Some (box (negsuc 4999) (pos 7000) (pos 0) (pos 0))
  pub version_0 : sbix_box (two_strikes 0 2) 2 1000 0 ≡ None
  pub no_strikes : sbix_box (two_strikes 1 0) 2 1000 0 ≡ None
  pub no_room_in_any : sbix_box (two_strikes 1 2) 20 1000 0 ≡ None
  pub one_pixel : sbix_box (one_strike 0 1 1) 1 1000 0 ≡ Some (box (negsuc 4999) (pos 7000) (pos 0) (pos 0))
  pub no_pixels : sbix_box (one_strike 0 1 0) 1 1000 0 ≡ None
  pub no_table : sbix_box [] 2 1000 0 ≡ None

pub worked_scales : WorkedScales
unfolding scaled rounded round_with div mul add sum to_signed of_int round size span climb units odd count_trailing_zeros of_bits of_fields
worked_scales = record {
  tenfold = refl;
  below_0 = refl;
  half_upwards = refl;
  half_below_0 = refl;
  down = refl;
  smaller = refl;
}

pub worked_strikes : WorkedStrikes
worked_strikes = record {
  most_pixels = refl;
  first_of_two = refl;
  no_more_than_there_are = refl;
  last = refl;
  none = refl;
  all_looked_at = refl;
  no_more_looked_at = refl;
}

pub worked_sbix : WorkedSbix
unfolding ppem_of graphic_of strike_box box_in i16_of scaled rounded round_with div mul add sum to_signed of_int round size span climb units
    odd count_trailing_zeros of_bits of_fields
worked_sbix = record {
  strikes = refl;
  room_for_one = refl;
  no_room_for_two = refl;
  most_pixels = refl;
  room_for_offsets = refl;
  just_room = refl;
  no_room_for_offsets = refl;
  up_to_the_end = refl;
  strike_at_1 = refl;
  no_strike_at_0 = refl;
  bytes = refl;
  past_the_end = refl;
  header_alone = refl;
  past_the_last_glyph = refl;
  last_glyph = refl;
  sides = refl;
  widest = refl;
  highest = refl;
  too_wide = refl;
  too_high = refl;
  header_cut_off = refl;
  no_png = refl;
  other_type = refl;
  number_cut_off = refl;
  eight_others = refl;
  nine_others = refl;
  own = refl;
  same = refl;
  in_the_largest_alone = refl;
  version_256 = refl;
  version_0 = refl;
  no_strikes = refl;
  no_room_in_any = refl;
  one_pixel = refl;
  no_pixels = refl;
  no_table = refl;
}
