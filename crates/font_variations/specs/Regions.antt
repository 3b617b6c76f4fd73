-- Regions of the space of a font's axes (OpenType, "VariationRegionList"): how far each takes part at some coordinates.
use Prim.Native.Nat.{zero}
use Rattle.std.specs.Prelude.{ℕ, suc, ℤ, pos, List, Bool, cond, ◌+◌, ◌*◌, ◌&&◌, nat_lt, nat_le, length, if◌then◌else◌, slice_index_or}
use Rattle.std.specs.Float.{Float, binary32}
use lib.Ieee.{mul, eq}
use Rattle.font_bytes.specs.Bytes.{u16_of, i16_of}
use Rattle.font_variations.specs.Tents.{nothing, whole, tent}

-- the coordinate of an axis; it is 0, the default, past the last one that is given
abbrev pub coordinate_of : List ℤ → ℕ → ℤ
coordinate_of coordinates axis = slice_index_or coordinates axis (pos 0)

-- a list at `list` has the number of axes, the number of regions, and for each region a record of six bytes for each axis
abbrev pub region_at : List ℕ → ℕ → ℕ → ℕ
region_at t list region = list + 4 + 6 * (u16_of t list * region)

-- the table holds the whole list
abbrev pub is_whole : List ℕ → ℕ → Bool
is_whole t list = nat_le (region_at t list (u16_of t (list + 2))) (length t)

abbrev pub region_count : List ℕ → ℕ → ℕ
region_count t list = if is_whole t list then u16_of t (list + 2) else 0

-- the scalar of an axis of the region whose records stand at `at`
unfoldable pub axis_scalar : List ℕ → List ℤ → ℕ → ℕ → Float
axis_scalar t coordinates at axis = let record_at = at + 6 * axis in
    tent (i16_of t record_at) (i16_of t (record_at + 2)) (i16_of t (record_at + 4)) (coordinate_of coordinates axis)

-- the product of `n` scalars from number `i` on, and of what there is before; nothing takes part where one doesn't
abbrev pub product_from : (ℕ → Float) → ℕ → ℕ → Float → Float
product_from scalar zero i product = product
product_from scalar (suc n) i product =
    cond (eq (scalar i) nothing) nothing (product_from scalar n (suc i) (mul binary32 product (scalar i)))

-- of the region whose records stand at `at`, over its first `count` axes
abbrev pub product_of : List ℕ → List ℤ → ℕ → ℕ → Float
product_of t coordinates at count = product_from (axis_scalar t coordinates at) count 0 whole

-- the scalar of a region: the product over its axes; 0 without such a region
unfoldable pub region_scalar : List ℕ → ℕ → List ℤ → ℕ → Float
region_scalar t list coordinates region =
    if is_whole t list && nat_lt region (u16_of t (list + 2))
    then product_of t coordinates (region_at t list region) (u16_of t list)
    else nothing
