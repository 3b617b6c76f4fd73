-- numbers at a size, by hand
use Rattle.std.specs.Prelude.{◌≡◌, ℤ, pos, negsuc, Some, None, refl}
use Rattle.std.specs.Float.{round_with}
use lib.Count.{count_trailing_zeros}
use Rattle.std.specs.Int.{int_wrap}
use lib.Ieee.{round, size, span, climb, units, odd, of_int, div, mul, to_signed}
use Rattle.shape_common.specs.Wrapping.{◌+ʷ◌, ◌-ʷ◌}
use Rattle.shape_common.specs.declared.face.hb_glyph_extents_t.{hb_glyph_extents_t}
use Rattle.font_sizes.specs.Factors.{quotient, factor_of, nearest, if_short, sized}
use Rattle.font_sizes.specs.Scales.{scale_of, real_factor, floor_of, ceiling_of, across, up, extents_at}
use Rattle.font_sizes.specs.declared.scales.Scale.{Scale}

pub record WorkedFactors : Type 0 where
  pub twice : factor_of (pos 2000) 1000 ≡ pos 131072
  pub em_square : factor_of (pos 1000) 1000 ≡ pos 65536
  pub em_square_divided : quotient (pos 1000) 1000 ≡ pos 65536
  -- 42,666.67
  pub towards_0 : factor_of (pos 1000) 1536 ≡ pos 42666
  pub mirrored : factor_of (negsuc 999) 1536 ≡ negsuc 42665
  -- 276,692.992, of which 24 bits are left
  pub in_binary32 : factor_of (pos 4222) 1000 ≡ pos 276693

pub record WorkedNumbers : Type 0 where
  pub whole : nearest (pos 131072) (pos 741) ≡ pos 1482
  -- a factor of a half
  pub half_upwards : nearest (pos 32768) (pos 1) ≡ pos 1
  pub half_below_0 : nearest (pos 32768) (negsuc 0) ≡ pos 0
  pub one_and_a_half_below_0 : nearest (pos 32768) (negsuc 2) ≡ negsuc 0
  pub less_than_half : nearest (pos 32767) (pos 1) ≡ pos 0
  pub mirrored : nearest (negsuc 65535) (pos 741) ≡ negsuc 740
  -- 741 units at the size 4,222: 3,128.502
  pub in_a_size : sized (factor_of (pos 4222) 1000) (pos 741) ≡ pos 3129
  pub greatest : sized (pos 65536) (pos 2147483647) ≡ pos 2147483647
  pub too_great : sized (pos 65537) (pos 2147483647) ≡ pos 0
  pub least : sized (pos 65536) (negsuc 2147483647) ≡ negsuc 2147483647
  pub too_small : sized (pos 65537) (negsuc 2147483647) ≡ pos 0

-- an em square of 1,000 units that is 500 wide and 500 or 2,000 high
abbrev half : Scale
half = scale_of (record { x = pos 500; y = pos 500 }) 1000

abbrev half_and_twice : Scale
half_and_twice = scale_of (record { x = pos 500; y = pos 2000 }) 1000

abbrev mirrored_half : Scale
mirrored_half = scale_of (record { x = negsuc 499; y = negsuc 499 }) 1000

abbrev box : ℤ → ℤ → ℤ → ℤ → hb_glyph_extents_t
box x y width height = record { x_bearing = x; y_bearing = y; width = width; height = height }

pub record WorkedScales : Type 0 where
  -- 2.5
  pub along : across (Some half_and_twice) (pos 5) ≡ pos 3
  pub upwards : up (Some half_and_twice) (pos 5) ≡ pos 10
  pub without_a_size : across None (pos 5) ≡ pos 5
  pub upwards_without_a_size : up None (pos 5) ≡ pos 5
  -- from 1.5 to 6.5, and from -2.5 up to 3.5
  pub holds_what_it_held : extents_at half (box (pos 3) (pos 7) (pos 10) (negsuc 11)) ≡ box (pos 1) (pos 3) (pos 6) (negsuc 4)
  -- from -1.5 to -6.5, and from 2.5 down to -3.5
  pub mirrored : extents_at mirrored_half (box (pos 3) (pos 7) (pos 10) (negsuc 11)) ≡ box (negsuc 1) (negsuc 3) (negsuc 3) (pos 7)
  pub each_axis : extents_at half_and_twice (box (pos 3) (pos 7) (pos 10) (negsuc 11)) ≡ box (pos 1) (pos 14) (pos 6) (negsuc 23)
  pub empty : extents_at half (box (pos 0) (pos 0) (pos 0) (pos 0)) ≡ box (pos 0) (pos 0) (pos 0) (pos 0)

pub worked_factors : WorkedFactors
unfolding quotient round_with div to_signed of_int round size span climb units odd count_trailing_zeros
worked_factors = record {
  twice = refl;
  em_square = refl;
  em_square_divided = refl;
  towards_0 = refl;
  mirrored = refl;
  in_binary32 = refl;
}

pub worked_numbers : WorkedNumbers
unfolding nearest if_short quotient round_with div to_signed of_int round size span climb units odd count_trailing_zeros
worked_numbers = record {
  whole = refl;
  half_upwards = refl;
  half_below_0 = refl;
  one_and_a_half_below_0 = refl;
  less_than_half = refl;
  mirrored = refl;
  in_a_size = refl;
  greatest = refl;
  too_great = refl;
  least = refl;
  too_small = refl;
}

pub worked_scales : WorkedScales
unfolding nearest if_short quotient real_factor floor_of ceiling_of ◌+ʷ◌ ◌-ʷ◌ int_wrap round_with div mul to_signed of_int round size span climb
    units odd count_trailing_zeros
worked_scales = record {
  along = refl;
  upwards = refl;
  without_a_size = refl;
  upwards_without_a_size = refl;
  holds_what_it_held = refl;
  mirrored = refl;
  each_axis = refl;
  empty = refl;
}
