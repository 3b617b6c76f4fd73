-- Coverage tables (OpenType, "OpenType Layout Common Table Formats", Coverage Table).
use Rattle.std.specs.Prelude.{ℕ, List, Option, None, Bool, is_some, ◌+◌, ◌-◌, ◌*◌, nat_eq, nat_lt, if◌then◌else◌}
use Rattle.std.specs.Option.{option_map}
use Rattle.std.specs.declared.cmp.Ordering.{Ordering}
use Rattle.shape_font.specs.Bytes.{u16_of, fitting}
use Rattle.shape_font.specs.Search.{side_of, found_by}

-- format 1: glyphs in order, 2 bytes each, after a format and a count
abbrev pub side_of_listed : List ℕ → ℕ → ℕ → ℕ → Ordering
side_of_listed t start glyph i = let there = u16_of t (start + 4 + 2 * i) in side_of glyph there there

abbrev pub listed : List ℕ → ℕ → ℕ → Option ℕ
listed t start glyph = found_by (side_of_listed t start glyph) (fitting t (u16_of t (start + 2)) (start + 4) 2)

-- format 2: ranges in order, 6 bytes each: first and last glyph, and the index of the first
abbrev pub side_of_range : List ℕ → ℕ → ℕ → ℕ → Ordering
side_of_range t start glyph i = side_of glyph (u16_of t (start + 4 + 6 * i)) (u16_of t (start + 4 + 6 * i + 2))

abbrev pub ranged : List ℕ → ℕ → ℕ → Option ℕ
ranged t start glyph = found_by (side_of_range t start glyph) (fitting t (u16_of t (start + 2)) (start + 4) 6)

-- the index of a glyph of range `i`: that of the first glyph, and one more for each glyph after it
abbrev pub index_in_range : List ℕ → ℕ → ℕ → ℕ → ℕ
index_in_range t start glyph i = u16_of t (start + 4 + 6 * i + 4) + (glyph - u16_of t (start + 4 + 6 * i))

-- the Coverage Index of a glyph, if the table covers it; no table covers a glyph past 65535
abbrev pub coverage_index : List ℕ → ℕ → ℕ → Option ℕ
coverage_index t start glyph = if nat_lt 0xFFFF glyph then None
    else (if nat_eq (u16_of t start) 1 then listed t start glyph
    else (if nat_eq (u16_of t start) 2 then option_map (index_in_range t start glyph) (ranged t start glyph) else None))

abbrev pub covers : List ℕ → ℕ → ℕ → Bool
covers t start glyph = is_some (coverage_index t start glyph)
