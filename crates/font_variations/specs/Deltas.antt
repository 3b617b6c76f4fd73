-- What is added to a number of a font at some coordinates (OpenType, "Item Variation Store"): the sum over the regions of the
-- scalar of the region times the delta for it. Sums and products are those of binary32, in the order of the columns, as
-- HarfBuzz computes them.
use Prim.Native.Nat.{zero}
use Rattle.std.specs.Prelude.{◌≡◌, ◌<◌, slice_index_or, ℕ, suc, ℤ, List, Bool, ◌+◌, ◌*◌, ◌/◌, ◌%◌, ◌&&◌, nat_eq, nat_lt, nat_le, length, if◌then◌else◌}
use Rattle.std.specs.Float.{Float, binary32, floor}
use lib.Ieee.{mul, add, of_bits, of_int, to_signed}
use Rattle.font_bytes.specs.Bytes.{u16_of, u32_of, i8_of, i16_of, i32_of}
use Rattle.font_variations.specs.Regions.{region_scalar}
use Rattle.font_variations.specs.Tents.{nothing}

-- ---- ItemVariationData at `at`: rows of deltas, one column for each of its regions; the first columns have wide numbers

abbrev pub column_count : List ℕ → ℕ → ℕ
column_count t at = u16_of t (at + 4)

-- the upper bit doubles the size of all numbers
abbrev pub has_long_words : List ℕ → ℕ → Bool
has_long_words t at = nat_le 0x8000 (u16_of t (at + 2))

abbrev pub wide_count : List ℕ → ℕ → ℕ
wide_count t at = u16_of t (at + 2) % 0x8000

-- the size of the narrow numbers
abbrev pub unit_of : List ℕ → ℕ → ℕ
unit_of t at = if has_long_words t at then 2 else 1

abbrev pub row_size : List ℕ → ℕ → ℕ
row_size t at = (wide_count t at + column_count t at) * unit_of t at

abbrev pub row_at : List ℕ → ℕ → ℕ → ℕ
row_at t at row = at + 6 + 2 * column_count t at + row_size t at * row

-- the table has room for all rows, and no more columns are wide than there are
abbrev pub are_rows : List ℕ → ℕ → Bool
are_rows t at = nat_le (wide_count t at) (column_count t at) && nat_le (row_at t at (u16_of t at)) (length t)

-- the number in a column of the row that begins at `start`, of which `wide` are wide
abbrev pub wide_delta : List ℕ → Bool → ℕ → ℤ
wide_delta t long at = if long then i32_of t at else i16_of t at

abbrev pub narrow_delta : List ℕ → Bool → ℕ → ℤ
narrow_delta t long at = if long then i16_of t at else i8_of t at

unfoldable pub delta_in : List ℕ → Bool → ℕ → ℕ → ℕ → ℤ
delta_in t long wide start column = let size = (if long then 2 else 1) in
    (if nat_lt column wide then wide_delta t long (start + 2 * size * column)
    else narrow_delta t long (start + size * (wide + column)))

-- the scalar of a region of the store, whose list of regions stands at an offset; and that scalars that are kept are those of
-- the first regions
abbrev pub scalar_of : List ℕ → List ℤ → ℕ → Float
scalar_of t coordinates region = region_scalar t (u32_of t 2) coordinates region

abbrev pub AreScalars : List ℕ → List ℤ → List Float → Type 0
AreScalars t coordinates scalars = (region : ℕ) (d : Float) → region < length scalars
    → slice_index_or scalars region d ≡ scalar_of t coordinates region

-- the part of a column: the scalar of its region times its delta
unfoldable pub part_of : List ℕ → List ℤ → ℕ → ℕ → ℕ → Float
part_of t coordinates at start column =
    mul binary32 (scalar_of t coordinates (u16_of t (at + 6 + 2 * column)))
    (of_int binary32 (delta_in t (has_long_words t at) (wide_count t at) start column))

-- the sum of `n` parts from number `i` on, and of what there is before
abbrev pub sum_from : (ℕ → Float) → ℕ → ℕ → Float → Float
sum_from part zero i sum = sum
sum_from part (suc n) i sum = sum_from part n (suc i) (add binary32 sum (part i))

abbrev pub sum_of : List ℕ → List ℤ → ℕ → ℕ → ℕ → Float
sum_of t coordinates at start count = sum_from (part_of t coordinates at start) count 0 nothing

abbrev pub row_delta : List ℕ → List ℤ → ℕ → ℕ → Float
row_delta t coordinates at row =
    if nat_lt row (u16_of t at) && are_rows t at
    then sum_of t coordinates at (row_at t at row) (column_count t at)
    else nothing

-- ---- the store: its data by their outer index

abbrev pub data_at : List ℕ → ℕ → ℕ
data_at t outer = u32_of t (8 + 4 * outer)

abbrev pub has_data : List ℕ → ℕ → Bool
has_data t outer = nat_eq (u16_of t 0) 1 && nat_lt outer (u16_of t 6) && nat_lt 0 (data_at t outer)

unfoldable pub delta_of : List ℕ → List ℤ → ℕ → Float
delta_of t coordinates index =
    if has_data t (index / 65536) then row_delta t coordinates (data_at t (index / 65536)) (index % 65536) else nothing

-- what a delta takes: a step for each column of its row, and one for each axis of the column's region
abbrev pub row_steps : List ℕ → ℕ → ℕ
row_steps t index = if has_data t (index / 65536) then column_count t (data_at t (index / 65536)) * (1 + u16_of t (u32_of t 2)) else 0

-- the same delta, but a row that takes more than so many steps isn't read
abbrev pub delta_within : ℕ → List ℕ → List ℤ → ℕ → Float
delta_within most t coordinates index = if nat_le (row_steps t index) most then delta_of t coordinates index else nothing

-- to the nearest integer, halves up: what is at most the sum with 1/2, which is itself rounded
abbrev pub one_half : Float
one_half = of_bits binary32 0x3f000000

unfoldable pub rounded : Float → ℤ
rounded x = to_signed 31 (floor binary32 (add binary32 x one_half))
