-- INDEX data: so many objects, one after another (Adobe Technical Note 5176, section 5; in CFF2 the count is wide)
use Rattle.std.specs.Prelude.{ℕ, List, Bool, Option, Some, None, ◌+◌, ◌*◌, ◌^◌, ◌&&◌, nat_eq, nat_lt, nat_le, length, if◌then◌else◌, slice_index, slice_range}
use Rattle.std.specs.Option.{option_map}
use Rattle.cff_tables.specs.Bytes.{number_of}
use Rattle.cff_tables.specs.declared.index.ObjectRange.{ObjectRange}

-- how many bytes the count takes
abbrev pub count_size : Bool → ℕ
count_size wide = if wide then 4 else 2

abbrev pub object_count : List ℕ → Bool → ℕ → ℕ
object_count t wide at = number_of t at (count_size wide)

-- `offSize`, how many bytes each offset takes
abbrev pub offset_size : List ℕ → Bool → ℕ → ℕ
offset_size t wide at = slice_index t (at + count_size wide)

-- `offset[i]`, counted from the byte before the data
abbrev pub offset_of : List ℕ → Bool → ℕ → ℕ → ℕ
offset_of t wide at i = number_of t (at + count_size wide + 1 + i * offset_size t wide at) (offset_size t wide at)

-- the byte before the data: the last one of the offsets
abbrev pub base_of : List ℕ → Bool → ℕ → ℕ
base_of t wide at = at + count_size wide + (object_count t wide at + 1) * offset_size t wide at

-- where the last object ends
abbrev pub data_end : List ℕ → Bool → ℕ → ℕ
data_end t wide at = base_of t wide at + offset_of t wide at (object_count t wide at)

-- whether offsets take as many bytes as they may, and the table holds all objects
abbrev pub has_room : List ℕ → Bool → ℕ → Bool
has_room t wide at = nat_le 1 (offset_size t wide at) && nat_le (offset_size t wide at) 4 && nat_le (data_end t wide at) (length t)

-- where an INDEX ends that the table holds whole; one without objects is its count alone
abbrev pub index_end : List ℕ → Bool → ℕ → Option ℕ
index_end t wide at = if nat_lt (length t) (at + count_size wide) then None
    else (if nat_eq (object_count t wide at) 0 then Some (at + count_size wide)
    else (if has_room t wide at then Some (data_end t wide at) else None))

-- where object `i` stands: from its offset to the next; nowhere if they are not in order, pass the end, or lie past 4 GiB
abbrev pub range_of : List ℕ → Bool → ℕ → ℕ → Option ObjectRange
range_of t wide at i = let from = base_of t wide at + offset_of t wide at i in let to = base_of t wide at + offset_of t wide at (i + 1) in
    (if nat_lt i (object_count t wide at) && nat_le (offset_of t wide at (i + 1)) (offset_of t wide at (object_count t wide at))
    && nat_le from to && nat_le to (length t) && nat_lt to (2 ^ 32) then Some (record { from = from; to = to }) else None)

-- the bytes of object `i`
abbrev pub object_of : List ℕ → Bool → ℕ → ℕ → Option (List ℕ)
object_of t wide at i = option_map (λ r. slice_range t r.from r.to) (range_of t wide at i)
