-- Class definitions (OpenType, "OpenType Layout Common Table Formats", Class Definition Table).
use Rattle.std.specs.Prelude.{ℕ, List, ◌+◌, ◌-◌, ◌*◌, ◌||◌, nat_lt, nat_le, nat_eq, if◌then◌else◌}
use Rattle.std.specs.Option.{option_map_or}
use Rattle.shape_font.specs.Bytes.{u16_of, fitting}
use Rattle.layout_tables.specs.Coverage.{ranged}

-- format 1: the first glyph, a count, and a class for each glyph in a row
abbrev pub listed_class : List ℕ → ℕ → ℕ → ℕ
listed_class t start glyph = let first = u16_of t (start + 2) in
    (if nat_lt glyph first || nat_le (fitting t (u16_of t (start + 4)) (start + 6) 2) (glyph - first) then 0
    else u16_of t (start + 6 + 2 * (glyph - first)))

-- format 2: ranges as in a Coverage table, each with its class in place of an index
abbrev pub ranged_class : List ℕ → ℕ → ℕ → ℕ
ranged_class t start glyph = option_map_or (λ i. u16_of t (start + 8 + 6 * i)) (ranged t start glyph) 0

-- the class of a glyph; class 0 has all glyphs that no other class has
abbrev pub class_of : List ℕ → ℕ → ℕ → ℕ
class_of t start glyph = if nat_eq (u16_of t start) 1 then listed_class t start glyph
    else (if nat_eq (u16_of t start) 2 then ranged_class t start glyph else 0)
