-- The scalar of one axis of a region (OpenType, "OpenType Font Variations Common Table Formats", "Algorithm for interpolation
-- of instance values"), in binary32, as HarfBuzz computes it. Coordinates are normalized, in units of 1/16384.
use Rattle.std.specs.Prelude.{ℤ, pos, Bool, ◌-ℤ◌, ◌||◌, ◌&&◌, int_lt, int_le, if◌then◌else◌}
use Rattle.std.specs.Ordering.{int_eq}
use Rattle.std.specs.Float.{Float, binary32}
use lib.Ieee.{of_bits, of_int, div}

-- 0 and 1, as their bits
abbrev pub nothing : Float
nothing = of_bits binary32 0

abbrev pub whole : Float
whole = of_bits binary32 0x3f800000

-- one integer over another one, to the nearest number
unfoldable pub ratio : ℤ → ℤ → Float
ratio a b = div binary32 (of_int binary32 a) (of_int binary32 b)

-- out of order, or with a start and an end on either side of 0
abbrev pub is_malformed : ℤ → ℤ → ℤ → Bool
is_malformed start peak end = int_lt peak start || int_lt end peak || (int_lt start (pos 0) && int_lt (pos 0) end)

-- from the start to the peak the part grows evenly, and from there to the end it falls; at both ends and outside of them it
-- is nothing
abbrev pub slope : ℤ → ℤ → ℤ → ℤ → Float
slope start peak end coordinate =
    if int_le coordinate start then nothing
    else (if int_le end coordinate then nothing
    else (if int_lt coordinate peak then ratio (coordinate -ℤ start) (peak -ℤ start)
    else ratio (end -ℤ coordinate) (end -ℤ peak)))

-- An axis with its peak at 0 is left out, at whatever coordinate: its scalar is 1. So is that of an axis at its peak. At 0 the scalar
-- of any other one is 0, even of a malformed one, which is left out at other coordinates alone.
unfoldable pub tent : ℤ → ℤ → ℤ → ℤ → Float
tent start peak end coordinate =
    if int_eq peak (pos 0) || int_eq coordinate peak then whole
    else (if int_eq coordinate (pos 0) then nothing
    else (if is_malformed start peak end then whole
    else slope start peak end coordinate))
