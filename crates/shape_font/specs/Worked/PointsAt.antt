-- What a face returns at coordinates by `gvar`, which moves a point of its one glyph, half of the way.
use Rattle.std.specs.Prelude.{◌≡◌, ℕ, List, pos, negsuc, [], ◌∷◌, None, Some, true, false, refl}
use Rattle.std.specs.Float.{binary32, round_to_format, round_with}
use Rattle.std.specs.Int.{int_wrap}
use lib.Count.{count_trailing_zeros}
use lib.Ieee.{round, size, span, climb, units, odd, of_bits, of_fields, of_int, div, mul, add, sub, sum, eq, to_signed}
use Rattle.font_bytes.specs.Bytes as numbers
use Rattle.font_variations.specs.Deltas.{rounded}
use Rattle.font_variations.specs.Worked.Deltas.{there}
use Rattle.glyph_variations.specs.Glyph.{stored_of}
use Rattle.glyph_variations.specs.Sums.{moved_to}
use Rattle.glyph_variations.specs.Tuples.{ratio64, part_of, scalar_of}
use Rattle.shape_common.specs.Wrapping.{◌+ʷ◌, neg_w}
use Rattle.shape_font.specs.Bytes.{i16_of}
use Rattle.shape_font.specs.Face.{width_there, width_in, depth_there, depth_in, origin_above, h_advance_of, v_advance_of, v_origin_of}
use Rattle.shape_font.specs.Metrics.{as_short}
use Rattle.shape_font.specs.PointsAt.{point_at, metrics_glyph, width_of, depth_of, height_of}
use Rattle.shape_font.specs.PointsAt.{outline_from, has_place, left_in, moved_left, left_point, right_point, top_point, bottom_point, or_default}
use Rattle.shape_font.specs.Worked.Glyphs.{words}
use Rattle.shape_font.specs.declared.face.FontFace.{FontFace}

-- a table of one axis and one glyph, whose one tuple has its peak at 1: a point alone, 100 along the line and 20 up
abbrev moving : ℕ → List ℕ
moving point = 0 ∷ 1 ∷ 0 ∷ 0 ∷ 0 ∷ 1 ∷ 0 ∷ 0 ∷ 0 ∷ 0 ∷ 0 ∷ 28 ∷ 0 ∷ 1 ∷ 0 ∷ 1 ∷ 0 ∷ 0 ∷ 0 ∷ 28 ∷ 0 ∷ 0 ∷ 0 ∷ 0 ∷ 0 ∷ 0 ∷ 0 ∷ 17
    ∷ 0 ∷ 1 ∷ 0 ∷ 10 ∷ 0 ∷ 7 ∷ 0xA0 ∷ 0 ∷ 0x40 ∷ 0 ∷ 1 ∷ 0 ∷ point ∷ 0 ∷ 100 ∷ 0 ∷ 20 ∷ []

-- a font of one glyph without an outline, 500 wide and 900 high, with bearings of 50
abbrev varied : FontFace → List ℕ → FontFace
varied f gvar = record f {
  coordinates = record f.coordinates { now = there };
  hvar = record f.hvar { now = [] };
  vvar = record f.vvar { now = [] };
  vorg = record f.vorg { now = [] };
  gvar = record f.gvar { now = gvar };
  loca = record f.loca { now = words (0 ∷ 0 ∷ []) };
  glyf = record f.glyf { now = [] };
  hmtx = record f.hmtx { now = words (500 ∷ 50 ∷ []) };
  vmtx = record f.vmtx { now = words (900 ∷ 50 ∷ []) };
  long_places = false;
  outlines = true;
  glyph_count = 1;
  h_count = 1;
  v_count = 1;
}

-- the same without a place for the outline
abbrev nowhere : FontFace → FontFace
nowhere f = record (varied f (moving 1)) { loca = record f.loca { now = words (0 ∷ []) } }

-- and in the default instance
abbrev still : FontFace → FontFace
still f = record (varied f (moving 1)) { coordinates = record f.coordinates { now = [] } }

pub record WorkedPoints : Type 0 where
  pub right : (f : FontFace) → h_advance_of (varied f (moving 1)) (record { 0 = 0 }) ≡ pos 550
  pub left : (f : FontFace) → h_advance_of (varied f (moving 0)) (record { 0 = 0 }) ≡ pos 450
  pub top_along_the_line : (f : FontFace) → h_advance_of (varied f (moving 2)) (record { 0 = 0 }) ≡ pos 500
  pub top : (f : FontFace) → v_advance_of (varied f (moving 2)) (record { 0 = 0 }) ≡ negsuc 909
  pub bottom : (f : FontFace) → v_advance_of (varied f (moving 3)) (record { 0 = 0 }) ≡ negsuc 889
  pub right_down : (f : FontFace) → v_advance_of (varied f (moving 1)) (record { 0 = 0 }) ≡ negsuc 899
  pub origin : (f : FontFace) → v_origin_of (varied f (moving 2)) (record { 0 = 0 }) ≡ pos 60
  pub origin_still : (f : FontFace) → v_origin_of (varied f (moving 3)) (record { 0 = 0 }) ≡ pos 50
  pub no_table : (f : FontFace) → h_advance_of (varied f []) (record { 0 = 0 }) ≡ pos 500
  pub no_place : (f : FontFace) → h_advance_of (nowhere f) (record { 0 = 0 }) ≡ pos 500
  pub default_width : (f : FontFace) → h_advance_of (still f) (record { 0 = 0 }) ≡ pos 500
  pub default_depth : (f : FontFace) → v_advance_of (still f) (record { 0 = 0 }) ≡ negsuc 899

pub worked_points : WorkedPoints
unfolding width_there width_in depth_there depth_in origin_above width_of depth_of height_of metrics_glyph
    point_at moved_to scalar_of part_of ratio64 round_to_format rounded ◌+ʷ◌ neg_w int_wrap as_short i16_of
    round_with numbers.i8_of numbers.i16_of numbers.i32_of div mul add sub sum eq to_signed of_int round size
    span climb units odd count_trailing_zeros of_bits of_fields
worked_points = record {
  right = λ _. refl;
  left = λ _. refl;
  top_along_the_line = λ _. refl;
  top = λ _. refl;
  bottom = λ _. refl;
  right_down = λ _. refl;
  origin = λ _. refl;
  origin_still = λ _. refl;
  no_table = λ _. refl;
  no_place = λ _. refl;
  default_width = λ _. refl;
  default_depth = λ _. refl;
}

-- an outline of 12 bytes whose box reaches from (70, -20) to (430, 700)
abbrev outline : List ℕ
outline = words (1 ∷ 70 ∷ 65516 ∷ 430 ∷ 700 ∷ 9 ∷ [])

-- the font without its bearings: `hmtx` and `vmtx` end after the advances
abbrev bare : FontFace → FontFace
bare f = record (varied f []) {
  hmtx = record f.hmtx { now = words (500 ∷ []) };
  vmtx = record f.vmtx { now = words (900 ∷ []) };
}

pub record WorkedPointPlaces : Type 0 where
  -- the first of two outlines; one whose header is cut is empty, and none past the end, or that ends before it begins
  pub first_outline : outline_from (words (1 ∷ 2 ∷ 3 ∷ 4 ∷ 5 ∷ 6 ∷ [])) 0 10 ≡ Some (words (1 ∷ 2 ∷ 3 ∷ 4 ∷ 5 ∷ []))
  pub from_its_place : outline_from (words (1 ∷ 2 ∷ 3 ∷ 4 ∷ 5 ∷ 6 ∷ [])) 2 12 ≡ Some (words (2 ∷ 3 ∷ 4 ∷ 5 ∷ 6 ∷ []))
  pub cut_header : outline_from (words (1 ∷ 2 ∷ 3 ∷ 4 ∷ 5 ∷ 6 ∷ [])) 0 9 ≡ Some []
  pub past_the_end : outline_from (words (1 ∷ 2 ∷ [])) 0 5 ≡ None
  pub backwards : outline_from (words (1 ∷ 2 ∷ [])) 2 1 ≡ None
  -- a glyph's outline ends where that of the next one begins
  pub place : (f : FontFace) → has_place (varied f []) 0 ≡ true
  pub no_next_place : (f : FontFace) → has_place (varied f []) 1 ≡ false
  pub long_place : (f : FontFace) → has_place (record (varied f []) { long_places = true }) 0 ≡ false
  -- the outline stands 50 right of the left point and 50 below the top one
  pub left_end : (f : FontFace) → left_point (varied f []) 0 outline ≡ record { number = 0; place = pos 20 }
  pub right_end : (f : FontFace) → right_point (varied f []) 0 outline ≡ record { number = 1; place = pos 520 }
  pub upper_end : (f : FontFace) → top_point (varied f []) 0 outline ≡ record { number = 2; place = pos 750 }
  pub lower_end : (f : FontFace) → bottom_point (varied f []) 0 outline ≡ record { number = 3; place = negsuc 149 }
  -- without bearings the left point is 0, and the top one that of the outline
  pub left_without_a_bearing : (f : FontFace) → left_point (bare f) 0 outline ≡ record { number = 0; place = pos 0 }
  pub top_without_a_bearing : (f : FontFace) → top_point (bare f) 0 outline ≡ record { number = 2; place = pos 700 }
  pub left_of_the_outline : left_in (words (500 ∷ 50 ∷ [])) 1 0 outline ≡ pos 20
  pub left_without_one : left_in (words (500 ∷ [])) 1 0 outline ≡ pos 0
  -- half of 100 past 20; none for an outline whose numbers of contours are cut off
  pub left_moved : moved_left (stored_of (moving 0) 1 0 there) [] (pos 20) ≡ Some (of_int binary32 (pos 70))
  pub left_cut_off : moved_left (stored_of (moving 0) 1 0 there) outline (pos 20) ≡ None
  pub there : or_default (Some (pos 1)) 500 ≡ pos 1
  pub not_above_0 : or_default (Some (pos 0)) 500 ≡ pos 500
  pub below_0 : or_default (Some (negsuc 0)) 500 ≡ pos 500
  pub not_there : or_default None 500 ≡ pos 500

pub worked_point_places : WorkedPointPlaces
unfolding moved_left moved_to scalar_of part_of ratio64 round_to_format round_with i16_of numbers.i8_of numbers.i16_of numbers.i32_of
    div mul add sub sum eq of_int round size span climb units odd count_trailing_zeros of_bits of_fields
worked_point_places = record {
  first_outline = refl;
  from_its_place = refl;
  cut_header = refl;
  past_the_end = refl;
  backwards = refl;
  place = λ _. refl;
  no_next_place = λ _. refl;
  long_place = λ _. refl;
  left_end = λ _. refl;
  right_end = λ _. refl;
  upper_end = λ _. refl;
  lower_end = λ _. refl;
  left_without_a_bearing = λ _. refl;
  top_without_a_bearing = λ _. refl;
  left_of_the_outline = refl;
  left_without_one = refl;
  left_moved = refl;
  left_cut_off = refl;
  there = refl;
  not_above_0 = refl;
  below_0 = refl;
  not_there = refl;
}
