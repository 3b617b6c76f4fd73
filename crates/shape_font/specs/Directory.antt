-- where the tables of a font file stand
use Rattle.std.specs.Prelude.{ℕ, List, [], Bool, Option, Some, None, is_some, ◌+◌, ◌*◌, nat_le, nat_lt, nat_eq, length, if◌then◌else◌, slice_range}
use Rattle.std.specs.Option.{option_and_then, unwrap_or}
use Rattle.shape_font.specs.Bytes.{u16_of, u32_of, fitting}
use Rattle.shape_font.specs.ResourceFork.{is_fork, font_of}
use Rattle.shape_font.specs.Search.{first_at}

-- where the font with this number begins: a collection (`ttcf`) lists its fonts, another file is one font
abbrev pub font_start : List ℕ → ℕ → Option ℕ
font_start bytes index = if nat_eq (u32_of bytes 0) 0x74746366
    then (if nat_lt index (u32_of bytes 8) then Some (u32_of bytes (12 + 4 * index)) else None)
    else (if nat_eq index 0 then Some 0 else None)

-- the bytes from `at` on, `len` of them, if there are so many
abbrev pub slice_of : List ℕ → ℕ → ℕ → Option (List ℕ)
slice_of bytes at len = if nat_le (at + len) (length bytes) then Some (slice_range bytes at (at + len)) else None

-- the table of the first of `count` records with this tag, of the font that begins at `start`
abbrev pub table_among : List ℕ → ℕ → ℕ → ℕ → Option (List ℕ)
table_among bytes start count tag =
    option_and_then (λ i. slice_of bytes (u32_of bytes (start + 20 + 16 * i)) (u32_of bytes (start + 24 + 16 * i)))
    (first_at (λ i. nat_eq (u32_of bytes (start + 12 + 16 * i)) tag) count 0)

-- how many records the directory of the font that begins at `start` has
abbrev pub record_count : List ℕ → ℕ → ℕ
record_count bytes start = fitting bytes (u16_of bytes (start + 4)) (start + 12) 16

abbrev pub table_at : List ℕ → ℕ → ℕ → Option (List ℕ)
table_at bytes start tag = table_among bytes start (record_count bytes start) tag

-- the table with this tag, of the font with this number; a font in a resource fork is a file of its own
abbrev pub table_of : List ℕ → ℕ → ℕ → Option (List ℕ)
table_of bytes index tag = if is_fork bytes then table_at (font_of bytes index) 0 tag
    else option_and_then (λ start. table_at bytes start tag) (font_start bytes index)

unfoldable pub has_table : List ℕ → ℕ → ℕ → Bool
has_table bytes index tag = is_some (table_of bytes index tag)

-- a table that isn't there reads as an empty one
unfoldable pub bytes_of : List ℕ → ℕ → ℕ → List ℕ
bytes_of bytes index tag = unwrap_or (table_of bytes index tag) []
