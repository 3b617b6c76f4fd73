-- Lookup tables of Apple's fonts (TrueType Reference Manual, "Font Tables", "Lookup tables"): a value of some bytes for some glyphs.
-- A table begins with its format.
use Rattle.std.specs.Prelude.{ℕ, List, Bool, Option, Some, None, ◌+◌, ◌-◌, ◌*◌, ◌||◌, ◌&&◌, nat_eq, nat_le, nat_lt, length}
use Rattle.std.specs.Prelude.{slice_index, if◌then◌else◌}
use Rattle.std.specs.Option.{option_map, option_and_then}
use Rattle.std.specs.declared.cmp.Ordering.{Ordering}
use Rattle.shape_font.specs.Bytes.{u16_of, u24_of, u32_of, fitting}
use Rattle.shape_font.specs.Search.{side_of, found_by}

-- ---- units that are searched: BinSrchHeader has the size of a unit and how many there are; they follow it

abbrev pub unit_at : List ℕ → ℕ → ℕ → ℕ
unit_at t start i = start + 12 + u16_of t (start + 2) * i

-- units of fewer bytes than their fields take are none
abbrev pub unit_count : List ℕ → ℕ → ℕ → ℕ
unit_count t start least = let size = u16_of t (start + 2) in
    (if nat_lt size least then 0 else fitting t (u16_of t (start + 4)) (start + 12) size)

-- the last unit may stand there to end a search alone: its glyphs, one or two, are 0xFFFF
abbrev pub ends_search : List ℕ → ℕ → ℕ → Bool
ends_search t at glyphs = nat_eq (u16_of t at) 0xFFFF && (nat_eq glyphs 1 || nat_eq (u16_of t (at + 2)) 0xFFFF)

abbrev pub searched : List ℕ → ℕ → ℕ → ℕ → ℕ
searched t start least glyphs = let count = unit_count t start least in
    (if nat_lt 0 count && ends_search t (unit_at t start (count - 1)) glyphs then count - 1 else count)

-- a segment begins with its last glyph and its first one
abbrev pub side_of_segment : List ℕ → ℕ → ℕ → ℕ → Ordering
side_of_segment t start glyph i = let at = unit_at t start i in side_of glyph (u16_of t (at + 2)) (u16_of t at)

abbrev pub segment : List ℕ → ℕ → ℕ → ℕ → Option ℕ
segment t start least glyph = option_map (unit_at t start) (found_by (side_of_segment t start glyph) (searched t start least 2))

abbrev pub side_of_single : List ℕ → ℕ → ℕ → ℕ → Ordering
side_of_single t start glyph i = let there = u16_of t (unit_at t start i) in side_of glyph there there

abbrev pub single : List ℕ → ℕ → ℕ → ℕ → Option ℕ
single t start least glyph = option_map (unit_at t start) (found_by (side_of_single t start glyph) (searched t start least 1))

-- ---- where the value of a glyph stands, by the format

-- format 0: a value for each glyph of the font
abbrev pub simple : ℕ → ℕ → ℕ → ℕ → Option ℕ
simple start size count glyph = if nat_lt glyph count then Some (start + 2 + size * glyph) else None

-- format 2: one value for all glyphs of a segment
abbrev pub shared : List ℕ → ℕ → ℕ → ℕ → Option ℕ
shared t start size glyph = option_map (λ at. at + 4) (segment t start (4 + size) glyph)

-- format 4: a segment leads to values, one for each of its glyphs
abbrev pub listed : List ℕ → ℕ → ℕ → ℕ → Option ℕ
listed t start size glyph =
    option_map (λ at. start + u16_of t (at + 4) + size * (glyph - u16_of t (at + 2))) (segment t start 6 glyph)

-- format 6: glyphs, each with its value
abbrev pub paired : List ℕ → ℕ → ℕ → ℕ → Option ℕ
paired t start size glyph = option_map (λ at. at + 2) (single t start (2 + size) glyph)

-- formats 8 and 10: values for glyphs in a row, of which the first one and the number are said at `at`
abbrev pub in_row : List ℕ → ℕ → ℕ → ℕ → Option ℕ
in_row t at size glyph = let first = u16_of t at in
    (if nat_le first glyph && nat_lt (glyph - first) (u16_of t (at + 2)) then Some (at + 4 + size * (glyph - first)) else None)

-- values have two bytes or four
abbrev pub size_of : Bool → ℕ
size_of is_long = if is_long then 4 else 2

abbrev pub stated : List ℕ → ℕ → ℕ → ℕ → ℕ → Option ℕ
stated t start size glyphs glyph = let format = u16_of t start in
    (if nat_eq format 0 then simple start size glyphs glyph
    else (if nat_eq format 2 then shared t start size glyph
    else (if nat_eq format 4 then listed t start size glyph
    else (if nat_eq format 6 then paired t start size glyph
    else (if nat_eq format 8 then in_row t (start + 2) size glyph
    else None)))))

-- a value counts if the table has all of its bytes
abbrev pub whole : List ℕ → ℕ → ℕ → Option ℕ
whole t size at = if nat_le (at + size) (length t) then Some at else None

abbrev pub place_of : List ℕ → ℕ → Bool → ℕ → ℕ → Option ℕ
place_of t start is_long glyphs glyph = option_and_then (whole t (size_of is_long)) (stated t start (size_of is_long) glyphs glyph)

-- ---- format 10: values of four bytes each at most, as many as the table says

abbrev pub number_of : List ℕ → ℕ → ℕ → ℕ
number_of t size at = if nat_eq size 1 then slice_index t at
    else (if nat_eq size 2 then u16_of t at
    else (if nat_eq size 3 then u24_of t at
    else (if nat_eq size 4 then u32_of t at
    else 0)))

abbrev pub extended : List ℕ → ℕ → ℕ → Option ℕ
extended t start glyph = let size = u16_of t (start + 2) in
    (if nat_lt 4 size then None
    else option_map (number_of t size) (option_and_then (whole t size) (in_row t (start + 4) size glyph)))

-- ---- values

-- the number that a glyph has; none if the table names none
abbrev pub number_at : List ℕ → Bool → ℕ → ℕ
number_at t is_long at = if is_long then u32_of t at else u16_of t at

abbrev pub value_of : List ℕ → ℕ → Bool → ℕ → ℕ → Option ℕ
value_of t start is_long glyphs glyph = if nat_eq (u16_of t start) 10 then extended t start glyph
    else option_map (number_at t is_long) (place_of t start is_long glyphs glyph)
