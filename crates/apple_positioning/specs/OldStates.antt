-- State tables of the older table `kern` (TrueType Reference Manual, "Font Tables", "State tables", and "The 'kern' table"): their
-- numbers have 16 bits, classes and numbers of entries 8. Entries have no data of their own.
use Rattle.std.specs.Prelude.{ℕ, List, ◌+◌, ◌-◌, ◌*◌, ◌%◌, ◌&&◌, nat_eq, nat_le, nat_lt, slice_index, if◌then◌else◌}
use Rattle.shape_font.specs.Bytes.{u16_of, fitting}
use Rattle.apple_tables.specs.declared.states.Entry.{Entry}

-- the header has four numbers: how many classes there are, and where the classes, the states and the entries stand after it

abbrev pub class_count : List ℕ → ℕ → ℕ
class_count t start = u16_of t start

-- a first glyph, how many there are (16 bits each), and their classes, one after the other. Glyph 0xFFFF, which was deleted, has class
-- 2, and one that the table doesn't name class 1
abbrev pub class_of : List ℕ → ℕ → ℕ → ℕ
class_of t start glyph = let classes = start + u16_of t (start + 2) in let first = u16_of t classes in
    (if nat_eq glyph 0xFFFF then 2
    else (if nat_le first glyph && nat_lt (glyph - first) (fitting t (u16_of t (classes + 2)) (classes + 4) 1)
    then slice_index t (classes + 4 + (glyph - first))
    else 1))

-- a class past the last one is that of glyphs that the table doesn't name
abbrev pub column : List ℕ → ℕ → ℕ → ℕ
column t start class = if nat_lt class (class_count t start) then class else 1

-- a state is the place of its row after the start of the state table: a row of numbers of entries, one for each class. A text begins
-- in the first one
abbrev pub first_state : List ℕ → ℕ → ℕ
first_state t start = u16_of t (start + 4)

-- of so many bytes those of whole rows
abbrev pub in_rows : ℕ → ℕ → ℕ
in_rows size bytes = if nat_eq size 0 then 0 else bytes - bytes % size

-- a place within a row leads to its start; it may lie before the first one, too
abbrev pub row_of : List ℕ → ℕ → ℕ → ℕ
row_of t start place = let first = first_state t start in let size = class_count t start in
    (if nat_lt place first then first - in_rows size (first - place) else first + in_rows size (place - first))

abbrev pub entry_index : List ℕ → ℕ → ℕ → ℕ → ℕ
entry_index t start state class = slice_index t (start + (state + column t start class))

-- an entry: the place of the next state, and flags
abbrev pub entry_at : List ℕ → ℕ → ℕ → Entry
entry_at t start at = record { at = at + 4; next = row_of t start (u16_of t at); flags = u16_of t (at + 2) }

abbrev pub entry_of : List ℕ → ℕ → ℕ → ℕ → Entry
entry_of t start state class = entry_at t start (start + u16_of t (start + 6) + 4 * entry_index t start state class)
