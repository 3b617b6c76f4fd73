-- boxes in pixels, and in units of the font, as HarfBuzz computes them
use Rattle.std.specs.Prelude.{ℕ, ℤ, pos}
use Rattle.std.specs.Float.{Float, binary32}
use lib.Ieee.{div, mul, of_int}
use Rattle.font_variations.specs.Deltas.{rounded}
use Rattle.shape_common.specs.declared.face.hb_glyph_extents_t.{hb_glyph_extents_t}

-- how many units a pixel has, at a size of so many pixels to the em square, in binary32
abbrev pub unit_of : ℕ → ℕ → Float
unit_of units_per_em ppem = div binary32 (of_int binary32 (pos units_per_em)) (of_int binary32 (pos ppem))

-- to the nearest unit, halves up
unfoldable pub scaled : ℕ → ℕ → ℤ → ℤ
scaled units_per_em ppem pixels = rounded (mul binary32 (of_int binary32 pixels) (unit_of units_per_em ppem))

-- each number by itself, at so many pixels to the em square across, and so many upwards
abbrev pub in_units : ℕ → ℕ → ℕ → hb_glyph_extents_t → hb_glyph_extents_t
in_units units_per_em across upwards b = record {
  x_bearing = scaled units_per_em across b.x_bearing;
  y_bearing = scaled units_per_em upwards b.y_bearing;
  width = scaled units_per_em across b.width;
  height = scaled units_per_em upwards b.height;
}
