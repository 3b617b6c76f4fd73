-- Scalars of axes and of regions, computed by hand. Coordinates are in units of 1/16384.
use Rattle.std.specs.Prelude.{◌≡◌, ℕ, pos, negsuc, List, [], ◌∷◌, refl, false}
use Rattle.std.specs.Float.{Float, fin}
use lib.Count.{count_trailing_zeros}
use lib.Ieee.{round, size, span, climb, units, odd, of_bits, of_fields, of_int, div, mul, eq}
use Rattle.font_bytes.specs.Bytes.{i16_of}
use Rattle.font_variations.specs.Tents.{nothing, whole, ratio, tent}
use Rattle.font_variations.specs.Regions.{axis_scalar, region_scalar}

abbrev pub half : Float
half = fin false 1 (negsuc 0)

pub record WorkedTents : Type 0 where
  pub none : nothing ≡ fin false 0 (pos 0)
  pub all : whole ≡ fin false 1 (pos 0)
  -- from 0 to 1, with the peak at the end
  pub at_the_peak : tent (pos 0) (pos 16384) (pos 16384) (pos 16384) ≡ whole
  pub half_way_up : tent (pos 0) (pos 16384) (pos 16384) (pos 8192) ≡ half
  pub at_the_default : tent (pos 0) (pos 16384) (pos 16384) (pos 0) ≡ nothing
  pub on_the_other_side : tent (pos 0) (pos 16384) (pos 16384) (negsuc 8191) ≡ nothing
  -- from -1 to 0
  pub a_quarter_down : tent (negsuc 16383) (negsuc 16383) (pos 0) (negsuc 4095) ≡ fin false 1 (negsuc 1)
  -- with the peak between start and end
  pub half_way_down : tent (pos 0) (pos 8192) (pos 16384) (pos 12288) ≡ half
  pub at_the_start : tent (pos 4096) (pos 8192) (pos 16384) (pos 4096) ≡ nothing
  pub before_the_start : tent (pos 4096) (pos 8192) (pos 16384) (pos 4000) ≡ nothing
  pub at_the_end : tent (pos 0) (pos 8192) (pos 16384) (pos 16384) ≡ nothing
  pub beyond_the_end : tent (pos 0) (pos 8192) (pos 12000) (pos 16384) ≡ nothing
  -- 1/3 to 24 bits is 11184811 / 2 ^ 25
  pub a_third : tent (pos 0) (pos 3) (pos 6) (pos 1) ≡ fin false 11184811 (negsuc 24)
  -- an axis that takes no part, and those that are malformed
  pub peak_at_the_default : tent (pos 5) (pos 0) (pos 3) (pos 77) ≡ whole
  pub start_past_the_peak : tent (pos 9) (pos 5) (pos 16) (pos 7) ≡ whole
  pub end_before_the_peak : tent (pos 0) (pos 9) (pos 5) (pos 3) ≡ whole
  pub across_the_default : tent (negsuc 16383) (pos 8192) (pos 16384) (pos 4096) ≡ whole
  -- which decides first: the peak, the default, and then how it is formed
  pub malformed_at_the_default : tent (negsuc 0) (pos 5) (pos 9) (pos 0) ≡ nothing
  pub malformed_at_the_peak : tent (pos 9) (pos 5) (pos 3) (pos 5) ≡ whole

-- two axes; region 0 is (0, 1, 1) along the first and takes no part along the second, region 1 is (0, 1, 1) and (-1, -1, 0)
abbrev pub regions : List ℕ
regions = 0 ∷ 2 ∷ 0 ∷ 2
    ∷ 0 ∷ 0 ∷ 64 ∷ 0 ∷ 64 ∷ 0 ∷ 0 ∷ 0 ∷ 0 ∷ 0 ∷ 0 ∷ 0
    ∷ 0 ∷ 0 ∷ 64 ∷ 0 ∷ 64 ∷ 0 ∷ 192 ∷ 0 ∷ 192 ∷ 0 ∷ 0 ∷ 0 ∷ []

-- one byte less
abbrev pub cut_regions : List ℕ
cut_regions = 0 ∷ 2 ∷ 0 ∷ 2
    ∷ 0 ∷ 0 ∷ 64 ∷ 0 ∷ 64 ∷ 0 ∷ 0 ∷ 0 ∷ 0 ∷ 0 ∷ 0 ∷ 0
    ∷ 0 ∷ 0 ∷ 64 ∷ 0 ∷ 64 ∷ 0 ∷ 192 ∷ 0 ∷ 192 ∷ 0 ∷ 0 ∷ []

pub record WorkedRegions : Type 0 where
  pub one_axis : region_scalar regions 0 (pos 8192 ∷ negsuc 4095 ∷ []) 0 ≡ half
  pub two_axes : region_scalar regions 0 (pos 8192 ∷ negsuc 4095 ∷ []) 1 ≡ fin false 1 (negsuc 2)
  pub one_outside : region_scalar regions 0 (pos 8192 ∷ pos 4096 ∷ []) 1 ≡ nothing
  pub axes_not_given : region_scalar regions 0 (pos 8192 ∷ []) 1 ≡ nothing
  pub axes_not_given_that_take_no_part : region_scalar regions 0 (pos 8192 ∷ []) 0 ≡ half
  pub default_instance : region_scalar regions 0 [] 0 ≡ nothing
  pub past_the_last : region_scalar regions 0 (pos 8192 ∷ negsuc 4095 ∷ []) 2 ≡ nothing
  pub cut_off : region_scalar cut_regions 0 (pos 8192 ∷ negsuc 4095 ∷ []) 0 ≡ nothing

pub worked_tents : WorkedTents
unfolding tent ratio div of_int round size span climb units odd count_trailing_zeros of_bits of_fields
worked_tents = record {
  none = refl;
  all = refl;
  at_the_peak = refl;
  half_way_up = refl;
  at_the_default = refl;
  on_the_other_side = refl;
  a_quarter_down = refl;
  half_way_down = refl;
  at_the_start = refl;
  before_the_start = refl;
  at_the_end = refl;
  beyond_the_end = refl;
  a_third = refl;
  peak_at_the_default = refl;
  start_past_the_peak = refl;
  end_before_the_peak = refl;
  across_the_default = refl;
  malformed_at_the_default = refl;
  malformed_at_the_peak = refl;
}

pub worked_regions : WorkedRegions
unfolding region_scalar axis_scalar i16_of tent ratio div mul eq of_int round size span climb units odd count_trailing_zeros of_bits of_fields
worked_regions = record {
  one_axis = refl;
  two_axes = refl;
  one_outside = refl;
  axes_not_given = refl;
  axes_not_given_that_take_no_part = refl;
  default_instance = refl;
  past_the_last = refl;
  cut_off = refl;
}
