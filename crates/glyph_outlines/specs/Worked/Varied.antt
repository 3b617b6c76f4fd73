-- Where points come to stand at coordinates, computed by hand.
use Rattle.std.specs.Prelude.{◌≡◌, ℕ, ℤ, pos, negsuc, List, [], ◌∷◌, Bool, true, false, refl}
use Rattle.std.specs.Float.{Float, round_with, binary32, binary64, round_to_format}
use lib.Count.{count_trailing_zeros}
use lib.Ieee.{round, size, span, climb, units, odd, of_bits, of_fields, of_int, div, mul, add, sub, sum, eq, lt}
use Rattle.font_bytes.specs.Bytes as numbers
use Rattle.font_variations.specs.Tents.{nothing}
use Rattle.font_variations.specs.Worked.Deltas.{there}
use Rattle.glyf_points.specs.declared.composite.Placement.TheVariants.{Moved}
use Rattle.glyf_points.specs.declared.simple.GlyphPoint.{GlyphPoint}
use Rattle.glyph_variations.specs.Inferred.{inferred, spread, all_spread}
use Rattle.glyph_variations.specs.Outline.{listed_of, flushed, all_added, outline_moved}
use Rattle.glyph_variations.specs.Sums.{moved_to}
use Rattle.glyph_variations.specs.Tuples.{ratio64, part_of, scalar_of}
use Rattle.glyph_variations.specs.Worked.{at}
use Rattle.shape_font.specs.Bytes.{i16_of}
use Rattle.shape_font.specs.PointsAt.{moved_left}
use Rattle.shape_font.specs.Worked.Glyphs.{words}
use Rattle.glyph_outlines.specs.Frames.{still, along, frame_by, point_of, placed_at}
use Rattle.glyph_outlines.specs.Lefts.{metrics_step, metrics_glyph, left_at, frame_at}
use Rattle.glyph_outlines.specs.Places.{outline_bytes}
use Rattle.glyph_outlines.specs.Varied.{joined, varied_of, counted}
use Rattle.glyph_outlines.specs.Worked.Frames.{component, stands}
use Rattle.glyph_outlines.specs.declared.outlines.Outlines.{Outlines}
use Rattle.glyph_outlines.specs.declared.varied.VariedPoint.{VariedPoint}

abbrev whole : ℤ → Float
whole n = of_int binary32 n

-- the outline goes round the second point, and a contour ends with the third
abbrev pub three : List GlyphPoint
three = record { x = pos 100; y = pos 0; on = true; ends = false } ∷ record { x = pos 200; y = pos 50; on = false; ends = false }
    ∷ record { x = pos 300; y = pos 100; on = true; ends = true } ∷ []

-- points 0 and 2 of a tuple with its peak at 1: 10 and 30; upwards -4 and 6
abbrev pub for_two : List ℕ
for_two = 0 ∷ 1 ∷ 0 ∷ 10 ∷ 0 ∷ 10 ∷ 0xA0 ∷ 0 ∷ 0x40 ∷ 0 ∷ 2 ∷ 1 ∷ 0 ∷ 2 ∷ 1 ∷ 10 ∷ 30 ∷ 1 ∷ 0xFC ∷ 6 ∷ []

abbrev pub varied_point : Float → Float → Bool → Bool → VariedPoint
varied_point x y on ends = record { x = x; y = y; on = on; ends = ends }

abbrev pub to : Float → Float → VariedPoint
to x y = varied_point x y false true

pub record WorkedVaried : Type 0 where
  -- the point between moves by 20, and by 1
  pub moved : (varied_of (at for_two (pos 16384)) three 1000).points ≡ varied_point (whole (pos 110)) (whole (negsuc 3)) true false
      ∷ varied_point (whole (pos 220)) (whole (pos 51)) false false ∷ varied_point (whole (pos 330)) (whole (pos 106)) true true ∷ []
  -- half way to the peak, by 10 and by a half, which isn't rounded
  pub half_way : (varied_of (at for_two (pos 8192)) three 1000).points ≡ varied_point (whole (pos 105)) (whole (negsuc 1)) true false
      ∷ varied_point (whole (pos 210)) (div binary32 (whole (pos 101)) (whole (pos 2))) false false
      ∷ varied_point (whole (pos 315)) (whole (pos 103)) true true ∷ []
  -- along the line and up four steps for a header, one for its peak, two for deltas and seven for points
  pub what_is_left : (varied_of (at for_two (pos 16384)) three 1000).left ≡ 972
  pub counts_as : counted 4194204 ≡ 3
  -- 2 * 10 - 4 + 110, 3 * 10 + 4 / 2 - 4
  pub placed : placed_at (frame_by (component (Moved (pos 100) (pos 0)) false) (point_of (to (whole (pos 110)) (whole (negsuc 3)))))
      (to (whole (pos 10)) (whole (pos 4))) ≡ stands (pos 126) (pos 28)
  -- the offset is 2 * 110 + 4, 3 * 110 - 4 / 2
  pub offset_multiplied : placed_at (frame_by (component (Moved (pos 100) (pos 0)) true) (point_of (to (whole (pos 110)) (whole (negsuc 3)))))
      (to (whole (pos 10)) (whole (pos 4))) ≡ stands (pos 240) (pos 360)
  pub along_the_line : placed_at (along (of_int binary64 (negsuc 29))) (to (whole (pos 10)) (whole (pos 4))) ≡ stands (negsuc 19) (pos 4)

-- glyph 7 and its metrics
abbrev pub of_seven : List ℕ
of_seven = 0xFF ∷ 0xFF ∷ 0 ∷ 0 ∷ 0 ∷ 0 ∷ 0 ∷ 0 ∷ 0 ∷ 0 ∷ 2 ∷ 2 ∷ 0 ∷ 7 ∷ 1 ∷ 2 ∷ []

-- a table of one axis and one glyph, whose one tuple has its peak at 1: point 0 alone, 100 along the line and 20 up
abbrev pub moving : List ℕ
moving = 0 ∷ 1 ∷ 0 ∷ 0 ∷ 0 ∷ 1 ∷ 0 ∷ 0 ∷ 0 ∷ 0 ∷ 0 ∷ 28 ∷ 0 ∷ 1 ∷ 0 ∷ 1 ∷ 0 ∷ 0 ∷ 0 ∷ 28 ∷ 0 ∷ 0 ∷ 0 ∷ 0 ∷ 0 ∷ 0 ∷ 0 ∷ 17
    ∷ 0 ∷ 1 ∷ 0 ∷ 10 ∷ 0 ∷ 7 ∷ 0xA0 ∷ 0 ∷ 0x40 ∷ 0 ∷ 1 ∷ 0 ∷ 0 ∷ 0 ∷ 100 ∷ 0 ∷ 20 ∷ []

-- one glyph without an outline, with a bearing of 20; half of the way to a peak where its left point moves by 100
abbrev pub one : Outlines → Outlines
one o = record o {
  coordinates = record o.coordinates { now = there };
  gvar = record o.gvar { now = moving };
  loca = record o.loca { now = words (0 ∷ 0 ∷ []) };
  glyf = record o.glyf { now = [] };
  hmtx = record o.hmtx { now = words (500 ∷ 20 ∷ []) };
  long = false;
  h_count = 1;
  glyph_count = 1;
}

pub record WorkedLefts : Type 0 where
  pub of_a_component : (o : Outlines) → outline_bytes o 1 ≡ of_seven → metrics_step o 1 ≡ 7
  pub of_itself : (o : Outlines) → outline_bytes o 7 ≡ [] → metrics_step o 7 ≡ 7
  pub left : (o : Outlines) → left_at (one o) 0 ≡ whole (pos 30)
  pub without_a_bearing : (o : Outlines) → left_at (record (one o) { hmtx = record o.hmtx { now = words (500 ∷ []) } }) 0 ≡ whole (pos 50)
  -- an outline of one contour that ends before the number of its last point
  pub cut_off : (o : Outlines) → left_at (record (one o) {
    loca = record o.loca { now = words (0 ∷ 6 ∷ []) };
    glyf = record o.glyf { now = words (1 ∷ 70 ∷ 0 ∷ 430 ∷ 700 ∷ 9 ∷ []) };
  }) 0 ≡ nothing
  pub shifted : (o : Outlines) → frame_at (one o) 0 ≡ along (of_int binary64 (negsuc 29))
  pub by_default : (o : Outlines) → frame_at (record (one o) { coordinates = record o.coordinates { now = [] } }) 0 ≡ still

pub worked_varied : WorkedVaried
unfolding varied_of joined outline_moved listed_of flushed all_added all_spread spread inferred scalar_of part_of ratio64 round_to_format round_with
    numbers.i8_of numbers.i16_of numbers.i32_of div mul add sub sum eq lt of_int round size span climb units odd count_trailing_zeros of_bits of_fields
worked_varied = record {
  moved = refl;
  half_way = refl;
  what_is_left = refl;
  counts_as = refl;
  placed = refl;
  offset_multiplied = refl;
  along_the_line = refl;
}

pub worked_lefts : WorkedLefts
unfolding metrics_glyph left_at moved_left moved_to scalar_of part_of ratio64 round_to_format round_with i16_of numbers.i8_of numbers.i16_of numbers.i32_of
    div mul add sub sum eq of_int round size span climb units odd count_trailing_zeros of_bits of_fields
worked_lefts = record {
  of_a_component = λ o is. rw is refl;
  of_itself = λ o is. rw is refl;
  left = λ o. refl;
  without_a_bearing = λ o. refl;
  cut_off = λ o. refl;
  shifted = λ o. refl;
  by_default = λ o. refl;
}
