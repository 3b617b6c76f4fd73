-- Normalized coordinates (OpenType, "Coordinate Scales and Normalization"), in units of 1/16384: from the units of users, in
-- binary32, as HarfBuzz computes them.
use Rattle.std.specs.Prelude.{ℤ, pos, negsuc, cond, int_lt, if◌then◌else◌}
use Rattle.std.specs.Float.{Float, binary32}
use lib.Ieee.{sub, mul, div, le, lt, eq}
use Rattle.font_variations.specs.Deltas.{rounded}
use Rattle.font_variations.specs.declared.axes.Axis.{Axis}
use Rattle.font_variations.specs.declared.normal.TheConstants.{NORMAL_ONE}

-- within the axis; what is no number is at its least value
abbrev pub clamped : Axis → Float → Float
clamped axis value =
    let low = cond (le axis.least value) value axis.least in
    cond (le low axis.greatest) low axis.greatest

-- how far a value lies from the default, of how far it can lie
abbrev pub share : Float → Float → Float → ℤ
share value from span = rounded (mul binary32 (div binary32 (sub binary32 value from) span) NORMAL_ONE)

-- from -1 to 1
abbrev pub bounded : ℤ → ℤ
bounded n = if int_lt n (negsuc 16383) then negsuc 16383 else (if int_lt (pos 16384) n then pos 16384 else n)

-- the default is 0, the least value -1 and the greatest 1
unfoldable pub normalized : Axis → Float → ℤ
normalized axis wanted = let value = clamped axis wanted in
    if eq value axis.default then pos 0
    else (if lt value axis.default then bounded (share value axis.default (sub binary32 axis.default axis.least))
    else bounded (share value axis.default (sub binary32 axis.greatest axis.default)))
