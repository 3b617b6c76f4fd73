-- Which delta set an item has (OpenType, "DeltaSetIndexMap"): an outer and an inner index, in 16 bits each.
use Rattle.std.specs.Prelude.{ℕ, List, ◌+◌, ◌-◌, ◌*◌, ◌/◌, ◌%◌, ◌^◌, nat_eq, nat_le, length, min, if◌then◌else◌, slice_index}
use Rattle.font_bytes.specs.Bytes.{u16_of, u24_of, u32_of}

-- how many bytes an entry has, and how many of its lower bits are the inner index
abbrev pub entry_size : List ℕ → ℕ
entry_size m = slice_index m 1 / 16 % 4 + 1

abbrev pub inner_bits : List ℕ → ℕ
inner_bits m = slice_index m 1 % 16 + 1

-- format 0 counts its entries in 16 bits, format 1 in 32
abbrev pub entries_at : List ℕ → ℕ
entries_at m = if nat_eq (slice_index m 0) 0 then 4 else 6

abbrev pub said_count : List ℕ → ℕ
said_count m = if nat_eq (slice_index m 0) 0 then u16_of m 2 else u32_of m 2

-- a map that leads past the end of the table has no entries, and so has one of another format
abbrev pub map_count : List ℕ → ℕ
map_count m = if nat_le (slice_index m 0) 1
    then (if nat_le (entries_at m + entry_size m * said_count m) (length m) then said_count m else 0)
    else 0

abbrev pub entry_of : List ℕ → ℕ → ℕ → ℕ
entry_of m size at = if nat_eq size 1 then slice_index m at
    else (if nat_eq size 2 then u16_of m at
    else (if nat_eq size 3 then u24_of m at
    else u32_of m at))

-- an outer and an inner index in one number; of the outer one 16 bits are kept
abbrev pub as_index : ℕ → ℕ → ℕ
as_index bits entry = (entry / 2 ^ bits % 65536) * 65536 + entry % 2 ^ bits

-- items past the last entry share it; without entries an item is its own index
abbrev pub mapped : List ℕ → ℕ → ℕ
mapped m item = if nat_eq (map_count m) 0 then item
    else as_index (inner_bits m) (entry_of m (entry_size m) (entries_at m + entry_size m * min item (map_count m - 1)))
