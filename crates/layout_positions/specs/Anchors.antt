-- Anchors, the marks that have one, and the glyphs that marks attach to (OpenType, `GPOS`, "Anchor tables", "Mark array").
use Rattle.std.specs.Prelude.{ℕ, ℤ, pos, List, Bool, Option, Some, None, ◌+◌, ◌*◌, ◌||◌, length, nat_eq, nat_lt, nat_le, if◌then◌else◌}
use Rattle.std.specs.Option.{option_map_or, option_and_then}
use Rattle.shape_common.specs.Wrapping.{◌+ʷ◌}
use Rattle.shape_font.specs.Bytes.{u16_of, i16_of, fitting}
use Rattle.font_sizes.specs.declared.scales.Scale.{Scale}
use Rattle.layout_tables.specs.Coverage.{coverage_index}
use Rattle.layout_tables.specs.Offsets.{offset16_of}
use Rattle.layout_matching.specs.declared.lookup.Lookup.{Lookup}
use Rattle.layout_positions.specs.Devices.{is_default, delta_by}
use Rattle.layout_positions.specs.Sizes.{axis_across, axis_up, point}
use Rattle.layout_positions.specs.declared.anchors.Anchor.{Anchor}

abbrev pub origin : Anchor
origin = point (pos 0) (pos 0)

abbrev pub point_at : List ℕ → ℕ → Anchor
point_at t start = point (i16_of t (start + 2)) (i16_of t (start + 4))

-- with what devices add; at a size that stays by itself, since it is in units of the size
abbrev pub moved : Lookup → Anchor → ℤ → ℤ → Anchor
moved l a x y = option_map_or (λ (s : Scale). record a { x_delta = x; y_delta = y }) l.scale (point (a.x +ʷ x) (a.y +ʷ y))

-- a device for each coordinate, whose offset counts from the anchor
abbrev pub varied_point : Lookup → ℕ → Anchor → Anchor
varied_point l start a = moved l a (delta_by l (axis_across l) start (u16_of l.table.now (start + 6)))
    (delta_by l (axis_up l) start (u16_of l.table.now (start + 8)))

-- formats 1 to 3: two coordinates; a point of the outline (2) and devices (3) come after them
abbrev pub anchor_at : Lookup → ℕ → Anchor
anchor_at l start = let format = u16_of l.table.now start in
    let there = point_at l.table.now start in
    (if nat_eq format 1 || nat_eq format 2 then there
    else (if nat_eq format 3 then (if is_default l then there else varied_point l start there) else origin))

-- how many bytes an anchor of this format has; of another format only that is read
abbrev pub anchor_size : ℕ → ℕ
anchor_size format = if nat_eq format 1 then 6 else (if nat_eq format 2 then 8 else (if nat_eq format 3 then 10 else 2))

-- an anchor that leads past the end of the table is none
abbrev pub anchor_if : Lookup → ℕ → Option Anchor
anchor_if l start = let t = l.table.now in
    (if nat_le (start + anchor_size (u16_of t start)) (length t) then Some (anchor_at l start) else None)

-- the anchor whose offset stands at `at`
abbrev pub anchor_by : Lookup → ℕ → ℕ → Option Anchor
anchor_by l start at = option_and_then (anchor_if l) (offset16_of l.table.now start at)

-- rows of anchors, one for each class of marks
abbrev pub anchor_in : Lookup → ℕ → ℕ → ℕ → ℕ → Option Anchor
anchor_in l classes row class matrix = if nat_le (u16_of l.table.now matrix) row || nat_le classes class then None
    else anchor_by l matrix (matrix + 2 + 2 * (row * classes + class))

-- marks in the order of their list: their class and their anchor; past the end of the array class 0, at the origin
abbrev pub is_listed : List ℕ → ℕ → ℕ → Bool
is_listed t i array = nat_lt i (fitting t (u16_of t array) (array + 2) 4)

abbrev pub class_in : List ℕ → ℕ → ℕ → ℕ
class_in t i array = if is_listed t i array then u16_of t (array + 2 + 4 * i) else 0

abbrev pub mark_anchor_in : Lookup → ℕ → ℕ → Option Anchor
mark_anchor_in l i array = if is_listed l.table.now i array then anchor_by l array (array + 4 + 4 * i) else None

abbrev pub class_of_mark : List ℕ → ℕ → Option ℕ → ℕ
class_of_mark t i array = option_map_or (class_in t i) array 0

abbrev pub anchor_of_mark : Lookup → ℕ → Option ℕ → Anchor
anchor_of_mark l i array = option_map_or (λ a. a) (option_and_then (mark_anchor_in l i) array) origin

-- the number of a glyph in the list whose offset stands at `at`
abbrev pub number_at : List ℕ → ℕ → ℕ → ℕ → Option ℕ
number_at t start at glyph = option_and_then (λ list. coverage_index t list glyph) (offset16_of t start at)
