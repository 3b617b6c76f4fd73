-- Tables in order, in which a search by midpoints finds what a walk finds.
use Rattle.std.specs.Prelude.{ℕ, List, ◌+◌, ◌*◌}
use Rattle.shape_font.specs.Bytes.{u16_of, u32_of, fitting}

-- the glyphs of a Coverage table of format 1, and how many there are
abbrev pub glyph_at : List ℕ → ℕ → ℕ → ℕ
glyph_at t start i = u16_of t (start + 4 + 2 * i)

abbrev pub glyphs_of : List ℕ → ℕ → ℕ
glyphs_of t start = fitting t (u16_of t (start + 2)) (start + 4) 2

-- the ranges of a table of format 2
abbrev pub range_start : List ℕ → ℕ → ℕ → ℕ
range_start t start i = u16_of t (start + 4 + 6 * i)

abbrev pub range_end : List ℕ → ℕ → ℕ → ℕ
range_end t start i = u16_of t (start + 4 + 6 * i + 2)

abbrev pub ranges_of : List ℕ → ℕ → ℕ
ranges_of t start = fitting t (u16_of t (start + 2)) (start + 4) 6

-- the tags of a list of scripts or of language systems
abbrev pub record_tag : List ℕ → ℕ → ℕ → ℕ
record_tag t start i = u32_of t (start + 2 + 6 * i)

abbrev pub records_of : List ℕ → ℕ → ℕ
records_of t start = fitting t (u16_of t start) (start + 2) 6
