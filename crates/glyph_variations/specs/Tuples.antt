-- Tuples of a glyph (OpenType, "TupleVariationHeader"): where each takes part, and how far ("Algorithm for interpolation of instance
-- values"), in binary64 and then rounded to binary32, as HarfBuzz computes it. A tuple's header stands at `at`.
use Prim.Native.Nat.{zero}
use Rattle.std.specs.Prelude.{ℕ, suc, ℤ, pos, List, Bool, ◌+◌, ◌*◌, ◌/◌, ◌%◌, ◌-ℤ◌, ◌&&◌, ◌||◌, int_lt, nat_eq, nat_le, length, slice_index_or, if◌then◌else◌}
use Rattle.std.specs.Ordering.{int_eq}
use Rattle.std.specs.Float.{Float, binary32, binary64, round_to_format}
use lib.Ieee.{of_bits, of_int, mul, div}
use Rattle.font_bytes.specs.Bytes.{u16_of, i16_of}
use Rattle.font_variations.specs.Tents.{nothing}
use Rattle.glyph_variations.specs.Glyph.{Stored}

-- flags: its peak stands in it, with its start and end; it has points of its own; else the number of a shared peak
abbrev pub flags_of : List ℕ → ℕ → ℕ
flags_of d at = u16_of d (at + 2)

abbrev pub has_peak : List ℕ → ℕ → Bool
has_peak d at = nat_le 0x8000 (flags_of d at)

abbrev pub has_span : List ℕ → ℕ → Bool
has_span d at = nat_eq (flags_of d at / 0x4000 % 2) 1

abbrev pub has_points : List ℕ → ℕ → Bool
has_points d at = nat_eq (flags_of d at / 0x2000 % 2) 1

abbrev pub shared_number : List ℕ → ℕ → ℕ
shared_number d at = flags_of d at % 0x1000

-- how many bytes a peak of its own has
abbrev pub peak_size : Stored → ℕ → ℕ
peak_size g at = if has_peak g.bytes at then 2 * g.axes else 0

abbrev pub header_size : Stored → ℕ → ℕ
header_size g at = 4 + peak_size g at + (if has_span g.bytes at then 4 * g.axes else 0)

-- a shared peak has to be there
abbrev pub is_known : Stored → ℕ → Bool
is_known g at = has_peak g.bytes at || nat_le (2 * (g.axes * (shared_number g.bytes at + 1))) (length g.shared)

abbrev pub peak_of : Stored → ℕ → ℕ → ℤ
peak_of g at axis = if has_peak g.bytes at then i16_of g.bytes (at + 4 + 2 * axis)
    else i16_of g.shared (2 * (g.axes * shared_number g.bytes at + axis))

-- without a span, from the default to the peak
abbrev pub start_of : Stored → ℕ → ℕ → ℤ
start_of g at axis = if has_span g.bytes at then i16_of g.bytes (at + 4 + peak_size g at + 2 * axis)
    else (if int_lt (peak_of g at axis) (pos 0) then peak_of g at axis else pos 0)

abbrev pub end_of : Stored → ℕ → ℕ → ℤ
end_of g at axis = if has_span g.bytes at then i16_of g.bytes (at + 4 + peak_size g at + 2 * g.axes + 2 * axis)
    else (if int_lt (peak_of g at axis) (pos 0) then pos 0 else peak_of g at axis)

-- 0 and 1 in binary64, as their bits
abbrev pub nothing64 : Float
nothing64 = of_bits binary64 0

abbrev pub whole64 : Float
whole64 = of_bits binary64 0x3ff0000000000000

unfoldable pub ratio64 : ℤ → ℤ → Float
ratio64 a b = div binary64 (of_int binary64 a) (of_int binary64 b)

-- out of order, or with a start and an end on either side of 0
abbrev pub is_malformed : ℤ → ℤ → ℤ → Bool
is_malformed start peak end = int_lt peak start || int_lt end peak || (int_lt start (pos 0) && int_lt (pos 0) end)

abbrev pub slope64 : ℤ → ℤ → ℤ → ℤ → Float
slope64 start peak end coordinate =
    if int_lt coordinate start || int_lt end coordinate then nothing64
    else (if int_lt coordinate peak then ratio64 (coordinate -ℤ start) (peak -ℤ start) else ratio64 (end -ℤ coordinate) (end -ℤ peak))

-- a tuple with its peak at 0 along an axis takes part whatever the coordinate is
unfoldable pub part_of : ℤ → ℤ → ℤ → ℤ → Float
part_of start peak end coordinate =
    if int_eq peak (pos 0) || int_eq coordinate peak || is_malformed start peak end then whole64 else slope64 start peak end coordinate

abbrev pub axis_part : Stored → ℕ → ℕ → Float
axis_part g at axis = part_of (start_of g at axis) (peak_of g at axis) (end_of g at axis) (slice_index_or g.coordinates axis (pos 0))

-- the product of the first `n` parts
abbrev pub product_of : (ℕ → Float) → ℕ → Float
product_of part zero = whole64
product_of part (suc n) = mul binary64 (product_of part n) (part n)

unfoldable pub scalar_of : Stored → ℕ → Float
scalar_of g at = if is_known g at then round_to_format binary32 (product_of (axis_part g at) g.axes) else nothing
