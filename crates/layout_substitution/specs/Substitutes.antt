-- What the subtables of lookups put in place of glyphs (OpenType, "GSUB", single, multiple, alternate and ligature).
use Rattle.std.specs.Prelude.{ℕ, List, Bool, Option, Some, None, ◌+◌, ◌-◌, ◌*◌, ◌%◌, ◌&&◌, nat_eq, nat_lt, nat_le, length, if◌then◌else◌}
use Rattle.std.specs.Option.{option_and_then}
use Rattle.shape_font.specs.Bytes.{u16_of, fitting}
use Rattle.layout_tables.specs.Offsets.{offset16_of}
use Rattle.layout_matching.specs.Found.{number_of}

-- format 1: glyphs a distance away; format 2: a list of glyphs
abbrev pub single_by : List ℕ → ℕ → ℕ → ℕ → Option ℕ
single_by t start glyph i = if nat_eq (u16_of t start) 1 then Some ((glyph + u16_of t (start + 4)) % 65536)
    else (if nat_eq (u16_of t start) 2 && nat_lt i (fitting t (u16_of t (start + 4)) (start + 6) 2)
    then Some (u16_of t (start + 6 + 2 * i)) else None)

abbrev pub single_of : List ℕ → ℕ → ℕ → Option ℕ
single_of t start glyph = option_and_then (single_by t start glyph) (number_of t start glyph)

-- sets, one for each glyph of the list
abbrev pub set_number : List ℕ → ℕ → ℕ → Option ℕ
set_number t start i = if nat_lt i (fitting t (u16_of t (start + 4)) (start + 6) 2) then offset16_of t start (start + 6 + 2 * i) else None

abbrev pub set_of : List ℕ → ℕ → ℕ → Option ℕ
set_of t start glyph = if nat_eq (u16_of t start) 1 then option_and_then (set_number t start) (number_of t start glyph) else None

-- how many numbers are listed at a place, and one of them
abbrev pub listed_count : List ℕ → ℕ → ℕ
listed_count t list = fitting t (u16_of t list) (list + 2) 2

abbrev pub listed_at : List ℕ → ℕ → ℕ → ℕ
listed_at t list i = u16_of t (list + 2 + 2 * i)

-- alternate 1 is the first one of the set
abbrev pub alternate_in : List ℕ → ℕ → ℕ → Option ℕ
alternate_in t value set = if nat_lt 0 value && nat_le value (listed_count t set) then Some (listed_at t set (value - 1)) else None

abbrev pub alternate_of : List ℕ → ℕ → ℕ → ℕ → Option ℕ
alternate_of t start glyph value = option_and_then (alternate_in t value) (set_of t start glyph)

-- the glyph of a ligature, and how many components it has
abbrev pub ligature_glyph : List ℕ → ℕ → ℕ
ligature_glyph t ligature = u16_of t ligature

abbrev pub component_count : List ℕ → ℕ → ℕ
component_count t ligature = u16_of t (ligature + 2)

-- whether a ligature has a component, and the table all of its bytes; the first component isn't listed
abbrev pub has_components : List ℕ → ℕ → Bool
has_components t ligature = let count = component_count t ligature in
    nat_lt 0 count && nat_le (ligature + 4 + 2 * (count - 1)) (length t)
