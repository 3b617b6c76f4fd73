-- names of glyphs, by `post`
use Prim.Native.Nat.{zero}
use Rattle.std.specs.Prelude.{ℕ, suc, List, Option, Some, None, ◌+◌, ◌-◌, ◌*◌, ◌&&◌, nat_lt, nat_le, nat_eq, length, slice_index, slice_range, if◌then◌else◌}
use Rattle.std.specs.Option.{option_and_then}
use Rattle.shape_font.specs.Bytes.{u16_of, u32_of, fitting}

-- where string `k` of those from a place on begins: each is a byte with its length, and so many bytes; past the end, where none is,
-- if there are fewer
abbrev pub string_start : List ℕ → ℕ → ℕ → ℕ
string_start t zero at = at
string_start t (suc k) at = if nat_lt at (length t) then string_start t k (at + (1 + slice_index t at)) else at

-- the bytes of the string that begins at a place; none if it is empty or reaches past the end
abbrev pub string_at : List ℕ → ℕ → Option (List ℕ)
string_at t start = let len = slice_index t start in
    (if nat_lt 0 len && nat_le (start + 1 + len) (length t) then Some (slice_range t (start + 1) (start + 1 + len)) else None)

-- those of string `k`
abbrev pub string_of : List ℕ → ℕ → ℕ → Option (List ℕ)
string_of t k at = string_at t (string_start t k at)

-- where the strings of format 2 begin: after its list
abbrev pub strings_at : List ℕ → ℕ
strings_at post = 34 + 2 * u16_of post 32

-- the number of a glyph's name: in format 1 its own, in format 2 the one that is listed
abbrev pub name_index : List ℕ → ℕ → Option ℕ
name_index post glyph = if nat_eq (u32_of post 0) 0x10000 then (if nat_lt glyph 258 then Some glyph else None)
    else (if nat_eq (u32_of post 0) 0x20000 && nat_lt glyph (fitting post (u16_of post 32) 34 2)
    then Some (u16_of post (34 + 2 * glyph)) else None)

-- the name with a number: first the 258 that the table leaves out, then the strings after its list
abbrev pub name_of : List ℕ → List ℕ → ℕ → Option (List ℕ)
name_of standard post index = if nat_lt index 258 then string_of standard index 0
    else string_of post (index - 258) (strings_at post)

abbrev pub glyph_name : List ℕ → List ℕ → ℕ → Option (List ℕ)
glyph_name standard post glyph = option_and_then (name_of standard post) (name_index post glyph)
