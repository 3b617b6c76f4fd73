-- numbers in the bytes of a table, big endian; what lies past the end reads as 0
use Rattle.std.specs.Prelude.{ℕ, ℤ, pos, List, ◌+◌, ◌-◌, ◌*◌, ◌/◌, ◌-ℤ◌, nat_lt, min, length, if◌then◌else◌, slice_index}

abbrev pub u16_of : List ℕ → ℕ → ℕ
u16_of table at = slice_index table at * 256 + slice_index table (at + 1)

abbrev pub u24_of : List ℕ → ℕ → ℕ
u24_of table at = slice_index table at * 65536 + u16_of table (at + 1)

abbrev pub u32_of : List ℕ → ℕ → ℕ
u32_of table at = u16_of table at * 65536 + u16_of table (at + 2)

-- in two's complement
unfoldable pub i8_of : List ℕ → ℕ → ℤ
i8_of table at = let n = slice_index table at in (if nat_lt n 128 then pos n else (pos n -ℤ pos 256))

unfoldable pub i16_of : List ℕ → ℕ → ℤ
i16_of table at = let n = u16_of table at in (if nat_lt n 32768 then pos n else (pos n -ℤ pos 65536))

unfoldable pub i32_of : List ℕ → ℕ → ℤ
i32_of table at = let n = u32_of table at in (if nat_lt n 0x80000000 then pos n else (pos n -ℤ pos 0x100000000))

-- how many records of `size` bytes a table has room for from `at` on, at most as many as are stated
abbrev pub fitting : List ℕ → ℕ → ℕ → ℕ → ℕ
fitting table said at size = min said ((length table - at) / size)
