-- The headers of a table `kern` and of its subtables: OpenType's version 0, and Apple's version 1.0 (TrueType Reference Manual, "The
-- 'kern' table").
use Rattle.std.specs.Prelude.{ℕ, List, Bool, ◌+◌, nat_eq, nat_lt, ◌||◌, if◌then◌else◌, slice_index}
use Rattle.shape_font.specs.Bytes.{u16_of, u32_of}

-- a version of 16 bits in OpenType, and of 32 in Apple's, whose upper half is 1
abbrev pub is_apple : List ℕ → Bool
is_apple t = nat_eq (u16_of t 0) 1

-- where the first subtable begins
unfoldable pub first_start : List ℕ → ℕ
first_start t = if is_apple t then 8 else 4

-- ---- a subtable that begins at `start`: version, length (16 bits each), format and coverage (8 bits each) in OpenType; length (32
-- ---- bits), the upper half of coverage, its lower half, which is the format, and tupleIndex (16 bits) in Apple's

unfoldable pub header_size : List ℕ → ℕ
header_size t = if is_apple t then 8 else 6

unfoldable pub length_of : List ℕ → ℕ → ℕ
length_of t start = if is_apple t then u32_of t start else u16_of t (start + 2)

unfoldable pub format_of : List ℕ → ℕ → ℕ
format_of t start = if is_apple t then slice_index t (start + 5) else slice_index t (start + 4)

unfoldable pub coverage_of : List ℕ → ℕ → ℕ
coverage_of t start = if is_apple t then slice_index t (start + 4) else slice_index t (start + 5)

-- where the fields of its format begin
abbrev pub body_of : List ℕ → ℕ → ℕ
body_of t start = start + header_size t

-- the most bytes that a table can have: its length is a number of 32 bits
abbrev pub most_bytes : ℕ
most_bytes = 0xFFFFFFFF

-- a subtable whose stated length is less than its header ends the table, and so does one that passes the end of every table
abbrev pub ends_table : List ℕ → ℕ → Bool
ends_table t start = nat_lt (length_of t start) (header_size t) || nat_lt most_bytes (start + length_of t start)
