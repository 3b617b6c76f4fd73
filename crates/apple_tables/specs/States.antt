-- Extended state tables (TrueType Reference Manual, "Font Tables", "State tables", and "The 'morx' table"): a state and the class
-- of a glyph lead to an entry, which has the next state.
use Rattle.std.specs.Prelude.{ℕ, List, ◌+◌, ◌*◌, nat_eq, nat_le, nat_lt, length, false, if◌then◌else◌}
use Rattle.std.specs.Option.{option_map_or}
use Rattle.shape_font.specs.Bytes.{u16_of, u32_of}
use Rattle.apple_tables.specs.Lookups.{place_of}
use Rattle.apple_tables.specs.declared.states.Entry.{Entry}

-- the header has four numbers: how many classes there are, and where the classes, the states and the entries stand after it

abbrev pub class_count : List ℕ → ℕ → ℕ
class_count t start = u32_of t start

-- four classes are not said by the table: 0 is the end of the text, 1 has the glyphs that the table doesn't name, 2 a glyph that
-- was deleted, 0xFFFF, and 3 is the end of a line
abbrev pub class_of : List ℕ → ℕ → ℕ → ℕ → ℕ
class_of t start glyphs glyph = if nat_eq glyph 0xFFFF then 2
    else option_map_or (u16_of t) (place_of t (start + u32_of t (start + 4)) false glyphs glyph) 1

-- a class past the last one is that of glyphs that the table doesn't name
abbrev pub column : List ℕ → ℕ → ℕ → ℕ
column t start class = if nat_lt class (class_count t start) then class else 1

-- a state is a row of numbers of entries, one for each class; what stands past the end of the table is 0
abbrev pub index_at : List ℕ → ℕ → ℕ
index_at t at = if nat_le (at + 2) (length t) then u16_of t at else 0

abbrev pub entry_index : List ℕ → ℕ → ℕ → ℕ → ℕ
entry_index t start state class =
    index_at t (start + u32_of t (start + 8) + 2 * (state * class_count t start + column t start class))

-- an entry: the next state, flags, and data of its table
abbrev pub entry_at : List ℕ → ℕ → Entry
entry_at t at = record { at = at + 4; next = u16_of t at; flags = u16_of t (at + 2) }

abbrev pub entry_of : List ℕ → ℕ → ℕ → ℕ → ℕ → Entry
entry_of t start size state class = entry_at t (start + u32_of t (start + 12) + size * entry_index t start state class)
