-- FDSelect: the Font DICT of a glyph (Adobe Technical Note 5176, section 19; format 4: OpenType, "CFF2")
use Prim.Native.Nat.{zero}
use Rattle.std.specs.Prelude.{ℕ, suc, List, Bool, ◌+◌, ◌-◌, ◌*◌, ◌/◌, ◌<◌, nat_eq, nat_lt, if◌then◌else◌, slice_index}
use Rattle.std.specs.Option.{unwrap_or}
use Rattle.cff_tables.specs.Bytes.{number_of, first_at}

-- how many bytes a glyph takes, and how many the number of a Font DICT, in formats 3 and 4
abbrev pub glyph_size : ℕ → ℕ
glyph_size format = if nat_eq format 4 then 4 else 2

abbrev pub fd_size : ℕ → ℕ
fd_size format = if nat_eq format 4 then 2 else 1

-- where range `i` begins: with its first glyph, and the number of its Font DICT
abbrev pub range_at : ℕ → ℕ → ℕ → ℕ
range_at format at i = at + 1 + glyph_size format + i * (glyph_size format + fd_size format)

-- whether the range after range `i` begins past a glyph
abbrev pub next_is_past : List ℕ → ℕ → ℕ → ℕ → ℕ → Bool
next_is_past t format at glyph i = nat_lt glyph (number_of t (range_at format at (i + 1)) (glyph_size format))

-- a search by halves, of at most so many steps, for the first place from `from` on that passes, or else `to`
abbrev pub halved : (ℕ → Bool) → ℕ → ℕ → ℕ → ℕ
halved p zero from to = to
halved p (suc n) from to = let middle = from + (to - from) / 2 in
    (if nat_lt from to then (if p middle then halved p n from middle else halved p n (middle + 1) to) else to)

-- the range of a glyph among `count`, by halves as HarfBuzz searches
abbrev pub range_of : List ℕ → ℕ → ℕ → ℕ → ℕ → ℕ
range_of t format at count glyph = halved (next_is_past t format at glyph) (count - 1) 0 (count - 1)

-- what a walk finds: the first range that the next one begins past, or else the last
abbrev pub walked : List ℕ → ℕ → ℕ → ℕ → ℕ → ℕ
walked t format at count glyph = unwrap_or (first_at (next_is_past t format at glyph) (count - 1) 0) (count - 1)

-- each range begins past the one before it
abbrev pub RangesRise : List ℕ → ℕ → ℕ → ℕ → Type 0
RangesRise t format at count = (i j : ℕ) → i < j → j < count
    → number_of t (range_at format at i) (glyph_size format) < number_of t (range_at format at j) (glyph_size format)

abbrev pub ranged_fd : List ℕ → ℕ → ℕ → ℕ → ℕ
ranged_fd t format at glyph = number_of t
    (range_at format at (range_of t format at (number_of t (at + 1) (glyph_size format)) glyph) + glyph_size format) (fd_size format)

-- format 0 has a byte for each glyph, formats 3 and 4 have ranges; without one there is one Font DICT
abbrev pub fd_of : List ℕ → ℕ → ℕ → ℕ
fd_of t at glyph = let format = slice_index t at in
    (if nat_eq at 0 then 0
    else (if nat_eq format 0 then slice_index t (at + 1 + glyph)
    else (if nat_eq format 3 then ranged_fd t 3 at glyph
    else (if nat_eq format 4 then ranged_fd t 4 at glyph else 0))))
