-- Inferred deltas, and outlines that move, computed by hand.
use Rattle.std.specs.Prelude.{◌≡◌, ℕ, ℤ, pos, negsuc, List, [], ◌∷◌, Bool, true, false, Some, None, map, refl}
use Rattle.std.specs.Float.{Float, round_with, binary32, round_to_format}
use lib.Count.{count_trailing_zeros}
use lib.Ieee.{round, size, span, climb, units, odd, of_bits, of_fields, of_int, div, mul, add, sub, sum, eq, lt}
use Rattle.font_bytes.specs.Bytes.{i8_of, i16_of, i32_of}
use Rattle.glyf_points.specs.declared.simple.GlyphPoint.{GlyphPoint}
use Rattle.glyph_variations.specs.Inferred.{inferred, last_touched, first_touched, before, after, spread, contours, contour_step, all_spread}
use Rattle.glyph_variations.specs.Outline.{listed_of, flush_step, flushed, all_added, begun_point, outline_moved}
use Rattle.glyph_variations.specs.Tuples.{ratio64, part_of, scalar_of}
use Rattle.glyph_variations.specs.Worked.{at}
use Rattle.glyph_variations.specs.declared.inferred.Listed.{Listed}
use Rattle.glyph_variations.specs.declared.inferred.Neighbor.{Neighbor}
use Rattle.glyph_variations.specs.declared.inferred.Contour.{Contour}
use Rattle.glyph_variations.specs.declared.sums.Moving.{Moving}

abbrev whole : ℤ → Float
whole n = of_int binary32 n

-- a touched point at 100 that moves by 10, and one at 200 that moves by 30
abbrev low : Neighbor
low = record { place = whole (pos 100); delta = whole (pos 10) }

abbrev high : Neighbor
high = record { place = whole (pos 200); delta = whole (pos 30) }

pub record WorkedInference : Type 0 where
  pub half_way : inferred (whole (pos 150)) low high ≡ whole (pos 20)
  pub a_quarter_of_the_way : inferred (whole (pos 125)) low high ≡ whole (pos 15)
  pub a_quarter_backwards : inferred (whole (pos 125)) high low ≡ whole (pos 15)
  pub below : inferred (whole (pos 90)) low high ≡ whole (pos 10)
  pub below_backwards : inferred (whole (pos 90)) high low ≡ whole (pos 10)
  pub above : inferred (whole (pos 210)) low high ≡ whole (pos 30)
  pub above_backwards : inferred (whole (pos 210)) high low ≡ whole (pos 30)
  pub at_the_lower_one : inferred (whole (pos 100)) low high ≡ whole (pos 10)
  pub at_the_higher_one : inferred (whole (pos 200)) low high ≡ whole (pos 30)
  pub both_at_one_place : inferred (whole (pos 150)) low (record low { delta = whole (pos 10) }) ≡ whole (pos 10)
  pub both_at_one_place_apart : inferred (whole (pos 100)) low (record low { delta = whole (pos 30) }) ≡ whole (pos 0)

-- five points of which the second and the fourth are touched
abbrev no : Listed
no = record { delta = whole (pos 0); touched = false }

abbrev by : ℤ → Listed
by n = record { delta = whole n; touched = true }

abbrev five : List Listed
five = no ∷ by (pos 10) ∷ no ∷ by (pos 30) ∷ no ∷ []

abbrev contour : ℕ → ℕ → Contour
contour start end = record { start = start; end = end }

pub record WorkedNeighbors : Type 0 where
  pub last : last_touched five 0 5 ≡ Some 3
  pub last_of_three : last_touched five 0 3 ≡ Some 1
  pub last_of_one : last_touched five 0 1 ≡ None
  pub first : first_touched five 0 5 ≡ Some 1
  pub first_from_the_third : first_touched five 2 3 ≡ Some 3
  pub first_past_all : first_touched five 4 1 ≡ None
  -- the third point stands between the two; the last one's next is the second, and the first one's is before it the fourth
  pub before_the_third : before five (contour 0 5) 2 ≡ 1
  pub after_the_third : after five (contour 0 5) 2 ≡ 3
  pub after_the_last : after five (contour 0 5) 4 ≡ 1
  pub before_the_first : before five (contour 0 5) 0 ≡ 3
  pub of_a_later_contour : before five (contour 2 5) 0 ≡ 3

abbrev point : ℤ → Bool → GlyphPoint
point x ends = record { x = x; y = pos 0; on = true; ends = ends }

-- a contour at 50, 100, 150, 200, 250, and one at 0, 40
abbrev points : List GlyphPoint
points = point (pos 50) false ∷ point (pos 100) false ∷ point (pos 150) false ∷ point (pos 200) false ∷ point (pos 250) true
    ∷ point (pos 0) false ∷ point (pos 40) true ∷ []

abbrev moving : ℤ → ℤ → Moving
moving n m = record { position = whole n; pending = whole m }

abbrev waiting : List ℤ → List Moving
waiting = map (λ n. moving (pos 7) n)

abbrev none : List Moving
none = waiting (pos 0 ∷ pos 0 ∷ pos 0 ∷ pos 0 ∷ pos 0 ∷ pos 0 ∷ pos 0 ∷ [])

pub record WorkedContours : Type 0 where
  -- outside as the nearer one moves, between in proportion; the second contour has no touched point
  pub two_contours : all_spread points false five none
      ≡ waiting (pos 10 ∷ pos 0 ∷ pos 20 ∷ pos 0 ∷ pos 30 ∷ pos 0 ∷ pos 0 ∷ [])
  -- one touched point moves its whole contour
  pub one_touched : all_spread points false (no ∷ no ∷ no ∷ no ∷ no ∷ by (pos 9) ∷ no ∷ []) none
      ≡ waiting (pos 0 ∷ pos 0 ∷ pos 0 ∷ pos 0 ∷ pos 0 ∷ pos 0 ∷ pos 9 ∷ [])
  -- upwards all stand at 0, so that two that move apart leave the others
  pub upwards : all_spread points true five none ≡ none
  -- a point that ends no contour leaves all as it is; one that does spreads its own contour, and the next one begins after it
  pub within_a_contour : contour_step points false five 3 (contours 0 none) ≡ contours 0 none
  pub at_its_end : contour_step points false five 4 (contours 0 none)
      ≡ contours 5 (waiting (pos 10 ∷ pos 0 ∷ pos 20 ∷ pos 0 ∷ pos 30 ∷ pos 0 ∷ pos 0 ∷ []))
  pub at_the_end_of_the_second : contour_step points false (no ∷ by (pos 10) ∷ no ∷ by (pos 30) ∷ no ∷ by (pos 9) ∷ no ∷ []) 6 (contours 5 none)
      ≡ contours 7 (waiting (pos 0 ∷ pos 0 ∷ pos 0 ∷ pos 0 ∷ pos 0 ∷ pos 0 ∷ pos 9 ∷ []))
  pub a_part : spread points false (contour 0 3) five none ≡ waiting (pos 10 ∷ pos 0 ∷ pos 10 ∷ pos 0 ∷ pos 0 ∷ pos 0 ∷ pos 0 ∷ [])

-- a glyph of three points
abbrev three : List GlyphPoint
three = point (pos 100) false ∷ point (pos 200) false ∷ point (pos 300) true ∷ []

-- points 0 and 2 of a tuple with its peak at 1: 10 and 30; upwards 0 and 0
abbrev for_two : List ℕ
for_two = 0 ∷ 1 ∷ 0 ∷ 10 ∷ 0 ∷ 8 ∷ 0xA0 ∷ 0 ∷ 0x40 ∷ 0 ∷ 2 ∷ 1 ∷ 0 ∷ 2 ∷ 1 ∷ 10 ∷ 30 ∷ 0x81 ∷ []

pub record WorkedOutlines : Type 0 where
  -- the point between moves by 20
  pub between : (outline_moved (at for_two (pos 16384)) three false 1000).moving
      ≡ moving (pos 100) (pos 10) ∷ moving (pos 200) (pos 20) ∷ moving (pos 300) (pos 30) ∷ []
  -- half way to the peak
  pub half_way : (outline_moved (at for_two (pos 8192)) three false 1000).moving
      ≡ moving (pos 100) (pos 5) ∷ moving (pos 200) (pos 10) ∷ moving (pos 300) (pos 15) ∷ []
  -- of seven points two have deltas, and seven may get one; a header takes four steps, and its peak has one coordinate
  pub what_is_left : (outline_moved (at for_two (pos 16384)) three false 1000).walk.left ≡ 986
  pub just_enough : (outline_moved (at for_two (pos 16384)) three false 15).walk.left ≡ 1
  pub too_little : (outline_moved (at for_two (pos 16384)) three false 13).walk.left ≡ 0
  pub not_even_a_peak : (outline_moved (at for_two (pos 16384)) three false 0).walk.left ≡ 0
  pub on_the_other_side : (outline_moved (at for_two (negsuc 8191)) three false 1000).moving
      ≡ moving (pos 100) (pos 0) ∷ moving (pos 200) (pos 0) ∷ moving (pos 300) (pos 0) ∷ []
  -- 1, 2 and 3 wait, and go to the points when some are listed: point 2 by 10 twice
  pub all_of_three : all_added (1 ∷ 2 ∷ 1 ∷ 2 ∷ 3 ∷ []) 1 (whole (pos 1)) 3 (moving (pos 7) (pos 5) ∷ moving (pos 7) (pos 5) ∷ moving (pos 7) (pos 5) ∷ [])
      ≡ moving (pos 7) (pos 6) ∷ moving (pos 7) (pos 7) ∷ moving (pos 7) (pos 8) ∷ []
  pub flushed_first : flushed (by (pos 3) ∷ no ∷ []) (moving (pos 7) (pos 5) ∷ moving (pos 8) (pos 6) ∷ [])
      ≡ moving (pos 12) (pos 3) ∷ moving (pos 14) (pos 0) ∷ []
  -- one point after the other: 5 goes to the first, and 3 waits; 6 goes to the second, for which nothing is listed; there is no third
  pub first_flushed : flush_step (by (pos 3) ∷ no ∷ []) 0 (moving (pos 7) (pos 5) ∷ moving (pos 8) (pos 6) ∷ [])
      ≡ moving (pos 12) (pos 3) ∷ moving (pos 8) (pos 6) ∷ []
  pub second_flushed : flush_step (by (pos 3) ∷ no ∷ []) 1 (moving (pos 7) (pos 5) ∷ moving (pos 8) (pos 6) ∷ [])
      ≡ moving (pos 7) (pos 5) ∷ moving (pos 14) (pos 0) ∷ []
  pub no_third : flush_step (by (pos 3) ∷ no ∷ by (pos 4) ∷ []) 2 (moving (pos 7) (pos 5) ∷ moving (pos 8) (pos 6) ∷ [])
      ≡ moving (pos 7) (pos 5) ∷ moving (pos 8) (pos 6) ∷ []
  -- a point begins where it stands in the default instance, along the line or up, and nothing waits
  pub begun_along_the_line : begun_point false (record { x = pos 100; y = negsuc 19; on = false; ends = true }) ≡ moving (pos 100) (pos 0)
  pub begun_upwards : begun_point true (record { x = pos 100; y = negsuc 19; on = false; ends = true }) ≡ moving (negsuc 19) (pos 0)
  pub listed_twice : listed_of (1 ∷ 1 ∷ 0 ∷ 1 ∷ 10 ∷ 20 ∷ []) (record { at = 0; count = 2; deltas = 3 }) 3 (whole (pos 1)) 2
      ≡ no ∷ by (pos 30) ∷ []
  pub past_the_points : listed_of (0 ∷ 9 ∷ 0 ∷ 10 ∷ []) (record { at = 0; count = 1; deltas = 2 }) 2 (whole (pos 1)) 2 ≡ no ∷ no ∷ []

pub worked_inference : WorkedInference
unfolding inferred round_with div mul add sub sum eq lt of_int round size span climb units odd count_trailing_zeros of_bits of_fields
worked_inference = record {
  half_way = refl;
  a_quarter_of_the_way = refl;
  a_quarter_backwards = refl;
  below = refl;
  below_backwards = refl;
  above = refl;
  above_backwards = refl;
  at_the_lower_one = refl;
  at_the_higher_one = refl;
  both_at_one_place = refl;
  both_at_one_place_apart = refl;
}

pub worked_neighbors : WorkedNeighbors
worked_neighbors = record {
  last = refl;
  last_of_three = refl;
  last_of_one = refl;
  first = refl;
  first_from_the_third = refl;
  first_past_all = refl;
  before_the_third = refl;
  after_the_third = refl;
  after_the_last = refl;
  before_the_first = refl;
  of_a_later_contour = refl;
}

pub worked_contours : WorkedContours
unfolding all_spread spread inferred round_with div mul add sub sum eq lt of_int round size span climb units odd count_trailing_zeros of_bits
    of_fields
worked_contours = record {
  two_contours = refl;
  one_touched = refl;
  upwards = refl;
  within_a_contour = refl;
  at_its_end = refl;
  at_the_end_of_the_second = refl;
  a_part = refl;
}

pub worked_outlines : WorkedOutlines
unfolding outline_moved listed_of flushed all_added all_spread spread inferred scalar_of part_of ratio64 round_to_format round_with i8_of i16_of
    i32_of div mul add sub sum eq lt of_int round size span climb units odd count_trailing_zeros of_bits of_fields
worked_outlines = record {
  between = refl;
  half_way = refl;
  what_is_left = refl;
  just_enough = refl;
  too_little = refl;
  not_even_a_peak = refl;
  on_the_other_side = refl;
  all_of_three = refl;
  flushed_first = refl;
  first_flushed = refl;
  second_flushed = refl;
  no_third = refl;
  begun_along_the_line = refl;
  begun_upwards = refl;
  listed_twice = refl;
  past_the_points = refl;
}
