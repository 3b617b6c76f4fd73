-- What devices add at the coordinates of a font (OpenType, "Device and VariationIndex tables").
use Rattle.std.specs.Prelude.{ℕ, ℤ, pos, List, [], Bool, Option, ◌+◌, ◌*◌, ◌&&◌, max, length, nat_eq, nat_le, if◌then◌else◌}
use Rattle.font_sizes.specs.declared.scales.Axis.{Axis}
use Rattle.font_variations.specs.Deltas.{delta_of}
use Rattle.font_variations.specs.Parts.{part_at}
use Rattle.shape_font.specs.Bytes.{u16_of, u32_of, fitting}
use Rattle.layout_matching.specs.Loops.{along}
use Rattle.layout_matching.specs.declared.lookup.Lookup.{Lookup}
use Rattle.layout_positions.specs.Sizes.{rounded_at}

-- the Item Variation Store of `GDEF`, since version 1.3
abbrev pub store_of : List ℕ → List ℕ
store_of gdef = if nat_eq (u16_of gdef 0) 1 && nat_le 3 (u16_of gdef 2) then part_at gdef (u32_of gdef 14) else []

-- no coordinates are the default instance, where no device is read
abbrev pub is_default : Lookup → Bool
is_default l = nat_eq (length l.coordinates.now) 0

-- a device of format 0x8000 is the index of a set of deltas, the outer part first; those of other formats are for sizes in
-- pixels, of which there are none here. What is added along an axis is rounded by itself, at a size of the font, too
abbrev pub index_delta : Lookup → Option Axis → ℕ → ℤ
index_delta l axis index = rounded_at axis (delta_of (store_of l.gdef.now) l.coordinates.now index)

abbrev pub device_delta : Lookup → Option Axis → ℕ → ℤ
device_delta l axis at = if nat_le (at + 6) (length l.table.now) && nat_eq (u16_of l.table.now (at + 4)) 0x8000
    then index_delta l axis (u32_of l.table.now at) else pos 0

-- the device at an offset from `base`; there is none at 0
abbrev pub delta_by : Lookup → Option Axis → ℕ → ℕ → ℤ
delta_by l axis base offset = if nat_eq offset 0 then pos 0 else device_delta l axis (base + offset)

-- ---- what devices may cost at an item

-- the columns of the set of deltas with this number; an offset of 0 is no set
abbrev pub columns_of : List ℕ → ℕ → ℕ
columns_of store outer = let at = u32_of store (8 + 4 * outer) in if nat_eq at 0 then 0 else u16_of store (at + 4)

abbrev pub most_columns : List ℕ → ℕ
most_columns store = along (λ outer most. max most (columns_of store outer)) (fitting store (u16_of store 6) 8 4) 0 0

-- a step for each column, and one for each axis of its region
abbrev pub work_of : List ℕ → List ℤ → ℕ
work_of gdef coordinates = let store = store_of gdef in
    if nat_eq (length coordinates) 0 then 0
    else (if nat_eq (u16_of store 0) 1 then most_columns store * (1 + u16_of store (u32_of store 2)) else 0)
