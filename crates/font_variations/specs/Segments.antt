-- The segments that `avar` maps the coordinates of an axis by, from some normalized coordinates to others, in binary32, as
-- HarfBuzz computes them.
use Prim.Native.Nat.{zero}
use Rattle.std.specs.Prelude.{ℕ, suc, ℤ, List, cond, ◌+◌, ◌-◌, ◌*◌, ◌+ℤ◌, ◌-ℤ◌, int_lt, int_le, nat_eq, if◌then◌else◌}
use Rattle.std.specs.Float.{Float, binary32}
use lib.Ieee.{of_int, add, mul, div}
use Rattle.font_bytes.specs.Bytes.{u16_of, i16_of}
use Rattle.font_variations.specs.Deltas.{rounded}

-- the segments of an axis are a number of pairs, and the pairs; after them stand those of the next one
abbrev pub next_at : List ℕ → ℕ → ℕ
next_at t at = at + 2 + 4 * u16_of t at

abbrev pub segments_at : List ℕ → ℕ → ℕ
segments_at t zero = 8
segments_at t (suc axis) = next_at t (segments_at t axis)

abbrev pub from_of : List ℕ → ℕ → ℕ → ℤ
from_of t at i = i16_of t (at + 2 + 4 * i)

abbrev pub to_of : List ℕ → ℕ → ℕ → ℤ
to_of t at i = i16_of t (at + 4 + 4 * i)

-- moved by as much as the pair moves its own coordinate
abbrev pub moved : List ℕ → ℕ → ℤ → ℕ → ℤ
moved t at value i = value -ℤ from_of t at i +ℤ to_of t at i

-- of the `n` pairs from number `i` on, the first that the value isn't beyond; else the one after them
abbrev pub reached : List ℕ → ℕ → ℤ → ℕ → ℕ → ℕ
reached t at value zero i = i
reached t at value (suc n) i = cond (int_lt (from_of t at i) value) (reached t at value n (suc i)) i

abbrev pub apart : ℤ → ℤ → Float
apart low high = of_int binary32 (high -ℤ low)

-- between pair `i - 1` and pair `i`, evenly
unfoldable pub between : List ℕ → ℕ → ℤ → ℕ → ℤ
between t at value i =
    let rise = mul binary32 (apart (to_of t at (i - 1)) (to_of t at i)) (apart (from_of t at (i - 1)) value) in
    let run = apart (from_of t at (i - 1)) (from_of t at i) in
    rounded (add binary32 (of_int binary32 (to_of t at (i - 1))) (div binary32 rise run))

-- up to pair `i`, the first that the value isn't beyond
abbrev pub up_to_pair : List ℕ → ℕ → ℤ → ℕ → ℤ
up_to_pair t at value i = if int_le (from_of t at i) value then moved t at value i else between t at value i

-- before the first pair and after the last one a value moves with that pair
unfoldable pub mapped_by : List ℕ → ℕ → ℤ → ℤ
mapped_by t at value = let count = u16_of t at in
    if nat_eq count 0 then value
    else (if nat_eq count 1 then moved t at value 0
    else (if int_le value (from_of t at 0) then moved t at value 0
    else up_to_pair t at value (reached t at value (count - 1 - 1) 1)))
