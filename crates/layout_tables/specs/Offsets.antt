-- Offsets to other tables (OpenType, "Data types": Offset16, Offset32). An offset of 0 is NULL: there is no such table.
use Rattle.std.specs.Prelude.{ℕ, List, Option, Some, None, ◌+◌, nat_eq, if◌then◌else◌}
use Rattle.shape_font.specs.Bytes.{u16_of, u32_of}

-- where the table stands whose Offset16 is at `at` and counts from `start`
abbrev pub offset16_of : List ℕ → ℕ → ℕ → Option ℕ
offset16_of t start at = let offset = u16_of t at in (if nat_eq offset 0 then None else Some (start + offset))

-- the same by an Offset32
abbrev pub offset32_of : List ℕ → ℕ → ℕ → Option ℕ
offset32_of t start at = let offset = u32_of t at in (if nat_eq offset 0 then None else Some (start + offset))

-- the same by an Offset16 of the header, in a table of major version 1; other versions have no part that is known
abbrev pub header_offset_of : List ℕ → ℕ → Option ℕ
header_offset_of t at = if nat_eq (u16_of t 0) 1 then offset16_of t 0 at else None
