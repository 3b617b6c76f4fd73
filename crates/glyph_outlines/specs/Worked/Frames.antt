-- Where points come to stand, on components that were computed by hand.
use Rattle.std.specs.Prelude.{◌≡◌, ℤ, pos, negsuc, Bool, true, false, refl}
use Rattle.std.specs.Float.{binary64, round_with}
use lib.Count.{count_trailing_zeros}
use lib.Ieee.{round, size, span, climb, units, odd, of_bits, of_fields, of_int, div, mul, add, sum, eq}
use Rattle.glyf_points.specs.declared.composite.Component.{Component}
use Rattle.glyf_points.specs.declared.composite.Matrix.{Matrix}
use Rattle.glyf_points.specs.declared.composite.Placement.{Placement}
use Rattle.glyf_points.specs.declared.composite.Placement.TheVariants.{Moved, OnPoint}
use Rattle.glyf_points.specs.declared.simple.GlyphPoint.{GlyphPoint}
use Rattle.glyph_outlines.specs.Frames.{middle, still, within, frame_of, placed, shifted}
use Rattle.glyph_outlines.specs.declared.frame.Point.{Point}
use Rattle.glyph_outlines.specs.declared.frame.OutlinePoint.{OutlinePoint}

abbrev pub at : ℤ → ℤ → Bool → Point
at x y on = record { x = of_int binary64 x; y = of_int binary64 y; on = on }

abbrev pub point : ℤ → ℤ → GlyphPoint
point x y = record { x = x; y = y; on = false; ends = true }

-- where it stands in an outline
abbrev pub stands : ℤ → ℤ → OutlinePoint
stands x y = record { point = at x y false; ends = true }

-- x becomes 2 x - y, and y becomes 3 x + y / 2
abbrev pub slanted : Matrix
slanted = record { xx = pos 32768; xy = pos 49152; yx = negsuc 16383; yy = pos 8192 }

abbrev pub component : Placement → Bool → Component
component placement scaled = record {
  glyph = 5;
  placement = placement;
  matrix = slanted;
  is_offset_scaled = scaled;
  has_metrics = false;
}

pub record WorkedFrames : Type 0 where
  pub in_the_middle : middle (at (pos 1) (negsuc 3) true) (at (pos 5) (pos 10) false) ≡ at (pos 3) (pos 3) true
  pub still_moves_nothing : placed still (point (pos 7) (negsuc 8)) ≡ stands (pos 7) (negsuc 8)
  -- 2 * 10 - 4 + 100, 3 * 10 + 4 / 2 - 50
  pub multiplied_and_moved : placed (frame_of (component (Moved (pos 100) (negsuc 49)) false)) (point (pos 10) (pos 4))
      ≡ stands (pos 116) (negsuc 17)
  -- the offset is 2 * 100 + 50, 3 * 100 - 50 / 2
  pub offset_multiplied : placed (frame_of (component (Moved (pos 100) (negsuc 49)) true)) (point (pos 10) (pos 4))
      ≡ stands (pos 266) (pos 307)
  pub by_points_is_moved_later : placed (frame_of (component (OnPoint 3 4) true)) (point (pos 10) (pos 4)) ≡ stands (pos 16) (pos 32)
  -- (116, -18) again: 2 * 116 + 18 + 100, 3 * 116 - 9 - 50
  pub one_in_another : placed (within (frame_of (component (Moved (pos 100) (negsuc 49)) false)) (frame_of (component (Moved (pos 100) (negsuc 49)) false)))
      (point (pos 10) (pos 4)) ≡ stands (pos 350) (pos 289)
  pub moved_so_far : shifted (of_int binary64 (pos 3)) (of_int binary64 (negsuc 4)) (stands (pos 10) (pos 4)) ≡ stands (pos 13) (negsuc 0)

pub worked_frames : WorkedFrames
unfolding round_with div mul add sum eq of_int round size span climb units odd count_trailing_zeros of_bits of_fields
worked_frames = record {
  in_the_middle = refl;
  still_moves_nothing = refl;
  multiplied_and_moved = refl;
  offset_multiplied = refl;
  by_points_is_moved_later = refl;
  one_in_another = refl;
  moved_so_far = refl;
}
