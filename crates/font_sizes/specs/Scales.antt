-- numbers of a font at a size along both axes, as HarfBuzz 10.2.0 rounds them: `em_mult` for numbers that are rounded at once,
-- `em_fmult` in binary32 for those that are added before, and `scale_glyph_extents` for boxes
use Rattle.std.specs.Prelude.{ℕ, ℤ, pos, Option}
use Rattle.std.specs.Option.{option_map_or}
use Rattle.std.specs.Float.{Float, binary32, floor, ceil}
use lib.Ieee.{div, mul, of_int, to_signed}
use Rattle.shape_common.specs.Wrapping.{◌+ʷ◌, ◌-ʷ◌}
use Rattle.shape_common.specs.declared.face.hb_glyph_extents_t.{hb_glyph_extents_t}
use Rattle.font_sizes.specs.Factors.{factor_of, sized}
use Rattle.font_sizes.specs.declared.scales.Axis.{Axis}
use Rattle.font_sizes.specs.declared.scales.Scale.{Scale}
use Rattle.font_sizes.specs.declared.scales.Sides.{Sides}
use Rattle.font_sizes.specs.declared.scales.Size.{Size}

-- the size over the units of the em square
unfoldable pub real_factor : ℤ → ℕ → Float
real_factor size units = div binary32 (of_int binary32 size) (of_int binary32 (pos units))

abbrev pub axis_of : ℤ → ℕ → Axis
axis_of size units = record { factor = record { fixed = factor_of size units }; real = real_factor size units }

abbrev pub scale_of : Size → ℕ → Scale
scale_of size units = record { size = size; across = axis_of size.x units; up = axis_of size.y units }

-- rounded at once
abbrev pub times : Axis → ℤ → ℤ
times a n = sized a.factor.fixed n

-- in binary32, not rounded
abbrev pub stretched : Axis → Float → Float
stretched a x = mul binary32 x a.real

abbrev pub real_of : Axis → ℤ → Float
real_of a n = stretched a (of_int binary32 n)

-- ---- boxes: the side of the bearing downwards and the other side upwards, and how far it lies from there

unfoldable pub floor_of : Float → ℤ
floor_of x = to_signed 31 (floor binary32 x)

unfoldable pub ceiling_of : Float → ℤ
ceiling_of x = to_signed 31 (ceil binary32 x)

abbrev pub sides_at : Axis → Sides → Sides
sides_at a s = let low = floor_of (real_of a s.side) in
    record { side = low; len = ceiling_of (real_of a (s.side +ʷ s.len)) -ʷ low }

abbrev pub extents_at : Scale → hb_glyph_extents_t → hb_glyph_extents_t
extents_at s b =
    let x = sides_at s.across (record { side = b.x_bearing; len = b.width }) in
    let y = sides_at s.up (record { side = b.y_bearing; len = b.height }) in
    record { x_bearing = x.side; y_bearing = y.side; width = x.len; height = y.len }

-- ---- a number of a face that may have a size: without one as it is

abbrev pub across : Option Scale → ℤ → ℤ
across scale n = option_map_or (λ (s : Scale). times s.across n) scale n

abbrev pub up : Option Scale → ℤ → ℤ
up scale n = option_map_or (λ (s : Scale). times s.up n) scale n
