-- Marks attached to bases, to ligatures and to marks (OpenType, `GPOS`, lookup types 4, 5 and 6).
use Prim.Native.Nat.{zero}
use Rattle.std.specs.Prelude.{ℕ, suc, Bool, true, List, Option, Some, None, ◌+◌, ◌-◌, ◌*◌, ◌/◌, ◌&&◌, ◌||◌, not, max, min, is_some, unwrap_or, nat_eq}
use Rattle.std.specs.Prelude.{nat_lt, if◌then◌else◌}
use Rattle.std.specs.Option.{option_map, option_map_or, option_and_then, option_or}
use Rattle.std.specs.Int.RustNames.{bit_and}
use Rattle.shape_common.specs.Wrapping.{◌-ʷ◌}
use Rattle.shape_common.specs.declared.positions.GlyphPosition.{GlyphPosition}
use Rattle.shape_font.specs.Bytes.{u16_of, fitting}
use Rattle.shape_font.specs.Search.{first_at}
use Rattle.shape_items.specs.Buffer.{Buffer, most_countable}
use Rattle.shape_items.specs.Items.{Item}
use Rattle.layout_tables.specs.Offsets.{offset16_of}
use Rattle.layout_tables.specs.declared.lookups.LookupSubtable.{LookupSubtable}
use Rattle.layout_matching.specs.Skipping.{nth, shares, is_transparent}
use Rattle.layout_matching.specs.Work.{SEARCH_WORK}
use Rattle.layout_matching.specs.declared.lookup.Lookup.{Lookup}
use Rattle.layout_positions.specs.Anchors.{number_at, anchor_in, class_of_mark, anchor_of_mark}
use Rattle.layout_positions.specs.Attachment.{MARK_ATTACHED, chain_to}
use Rattle.layout_positions.specs.Edits.{position_changed, broken, concat_marked}
use Rattle.layout_positions.specs.Lookups.{Applied, unapplied, has_lookup_on, glyph_before, start_before}
use Rattle.layout_positions.specs.Sizes.{apart, footing}
use Rattle.layout_positions.specs.declared.anchors.Anchor.{Anchor}
use Rattle.layout_positions.specs.declared.bases.BaseSeen.{BaseSeen}

-- ---- a mark on a glyph

-- the anchor of the mark comes to stand on that of the glyph
abbrev pub mark_position : ℕ → ℕ → Anchor → Anchor → GlyphPosition → GlyphPosition
mark_position i j mark base p = record p {
  x_offset = base.x -ʷ mark.x;
  y_offset = base.y -ʷ mark.y;
  attach_chain = chain_to i j;
  attach_type = MARK_ATTACHED;
}

abbrev pub mark_put : ℕ → ℕ → Anchor → Buffer → Anchor → Applied
mark_put i j mark b base = record {
  buffer = position_changed (mark_position i j mark base) i (broken j (i + 1) b);
  next = Some (i + 1);
}

-- mark number `number` of the subtable on row `row` of a matrix of anchors; not if the row has none for its class
abbrev pub mark_array : List ℕ → ℕ → Option ℕ
mark_array t start = offset16_of t start (start + 8)

abbrev pub base_anchor : Lookup → ℕ → ℕ → ℕ → ℕ → Option Anchor
base_anchor l start number row matrix = let t = l.table.now in
    anchor_in l (u16_of t (start + 6)) row (class_of_mark t number (mark_array t start)) matrix

-- at a size of the font what is between the two anchors is rounded
abbrev pub mark_met : Lookup → ℕ → ℕ → Anchor → Buffer → Anchor → Applied
mark_met l i j mark b base = mark_put i j (footing l mark) b (apart l base mark)

abbrev pub mark_attached : Lookup → ℕ → ℕ → ℕ → ℕ → ℕ → Option ℕ → Buffer → Applied
mark_attached l start i j number row matrix b =
    option_map_or (mark_met l i j (anchor_of_mark l number (mark_array l.table.now start)) b)
    (option_and_then (base_anchor l start number row) matrix) (unapplied b)

-- ---- bases and ligatures

-- the glyph before a mark that is no mark itself, has the lookup on, and isn't transparent
abbrev pub is_base_seen : Lookup → Item → Bool
is_base_seen l item = not (shares item.properties.glyph_class.0 8) && not (is_transparent l true item) && has_lookup_on l item

-- of a glyph that a multiple substitution took apart, a component right after the component before it; a component after a mark
-- counts as a first one
abbrev pub follows_component : Item → Item → Bool
follows_component before item = item.properties.multiplied && before.properties.multiplied
    && not (shares before.properties.glyph_class.0 8) && nat_eq item.properties.ligature_id before.properties.ligature_id
    && nat_eq item.properties.ligature_component (before.properties.ligature_component + 1)

abbrev pub is_later_component : List Item → ℕ → Bool
is_later_component items j = nat_lt 0 j && follows_component (nth items (j - 1)) (nth items j)

-- the subtable lists the glyph as a base
abbrev pub is_listed_base : Lookup → ℕ → Item → Bool
is_listed_base l start item = is_some (number_at l.table.now start (start + 4) item.glyph_id)

-- a subtable of bases takes a component after the first one only if it lists it; a subtable of ligatures takes any component
abbrev pub takes_component : Lookup → LookupSubtable → List Item → ℕ → Bool
takes_component l subtable items j =
    not (nat_eq subtable.kind 4) || not (is_later_component items j) || is_listed_base l subtable.start (nth items j)

abbrev pub is_base_at : Lookup → LookupSubtable → List Item → ℕ → Bool
is_base_at l subtable items j = is_base_seen l (nth items j) && takes_component l subtable items j

-- the nearest one, not before place `until`
abbrev pub nearest_base : Lookup → LookupSubtable → List Item → ℕ → ℕ → Option ℕ
nearest_base l subtable items until i = option_map (λ d. i - 1 - d) (first_at (λ d. is_base_at l subtable items (i - 1 - d)) (i - until) 0)

-- each place is looked at once as long as the lookup goes on: from the place that was looked at last, by any subtable
abbrev pub base_of : Lookup → LookupSubtable → List Item → ℕ → BaseSeen → Option ℕ
base_of l subtable items i seen = if nat_lt i seen.until then nearest_base l subtable items 0 i
    else option_or (nearest_base l subtable items seen.until i) seen.place

abbrev pub base_seen : Lookup → LookupSubtable → List Item → ℕ → BaseSeen → BaseSeen
base_seen l subtable items i seen = record { until = i; place = base_of l subtable items i seen }

-- ---- what that costs

-- how many places are looked at: back to the base, or to the start of the list, but not what was looked at before
abbrev pub places_looked_at : ℕ → BaseSeen → ℕ → ℕ
places_looked_at i seen from = i - max from (if nat_lt i seen.until then 0 else seen.until)

-- one for each of them, and one for every four glyphs from the base on, since attachment marks them
abbrev pub work_from : ℕ → BaseSeen → ℕ → ℕ
work_from i seen from = min (places_looked_at i seen from + (i - from) / 4) most_countable

abbrev pub base_work : ℕ → BaseSeen → Option ℕ → ℕ
base_work i seen base = work_from i seen (unwrap_or base 0)

-- for a component after the first one that might be the base, a subtable of bases searches its list
abbrev pub is_searched : Lookup → LookupSubtable → List Item → ℕ → Bool
is_searched l subtable items j = nat_eq subtable.kind 4 && is_base_seen l (nth items j) && is_later_component items j

-- how many of the `n` places before place `i` are such
abbrev pub places_searched : Lookup → LookupSubtable → List Item → ℕ → ℕ → ℕ
places_searched l subtable items i zero = 0
places_searched l subtable items i (suc n) =
    places_searched l subtable items i n + (if is_searched l subtable items (i - 1 - n) then 1 else 0)

-- each of them costs as much more as a search of a list
abbrev pub search_from : Lookup → LookupSubtable → List Item → ℕ → BaseSeen → ℕ → ℕ
search_from l subtable items i seen from =
    min (places_searched l subtable items i (places_looked_at i seen from) * SEARCH_WORK) most_countable

abbrev pub search_work : Lookup → LookupSubtable → List Item → ℕ → BaseSeen → Option ℕ → ℕ
search_work l subtable items i seen base = search_from l subtable items i seen (unwrap_or base 0)

-- both together
abbrev pub seek_work : Lookup → LookupSubtable → List Item → ℕ → BaseSeen → Option ℕ → ℕ
seek_work l subtable items i seen base = min (base_work i seen base + search_work l subtable items i seen base) most_countable

-- ---- to a base

abbrev pub mark_number : Lookup → ℕ → ℕ → Buffer → Option ℕ
mark_number l start i b = number_at l.table.now start (start + 2) (nth b.items i).glyph_id

-- the row of the glyph at place `j`
abbrev pub row_of : Lookup → ℕ → ℕ → Buffer → Option ℕ
row_of l start j b = number_at l.table.now start (start + 4) (nth b.items j).glyph_id

abbrev pub mark_on_row : Lookup → ℕ → ℕ → ℕ → ℕ → Buffer → ℕ → Applied
mark_on_row l start i j number b row = mark_attached l start i j number row (offset16_of l.table.now start (start + 10)) b

abbrev pub mark_on_glyph : Lookup → ℕ → ℕ → ℕ → Buffer → ℕ → Applied
mark_on_glyph l start i number b j =
    option_map_or (mark_on_row l start i j number b) (row_of l start j b) (unapplied (concat_marked j (i + 1) b))

abbrev pub mark_base_at : Lookup → ℕ → Option ℕ → ℕ → Buffer → ℕ → Applied
mark_base_at l start base i b number = option_map_or (mark_on_glyph l start i number b) base (unapplied (concat_marked 0 (i + 1) b))

abbrev pub mark_base_applied : Lookup → ℕ → Option ℕ → ℕ → Buffer → Applied
mark_base_applied l start base i b = option_map_or (mark_base_at l start base i b) (mark_number l start i b) (unapplied b)

-- ---- to a component of a ligature

-- for each ligature a matrix, with a row for each component
abbrev pub ligature_in : List ℕ → ℕ → ℕ → Option ℕ
ligature_in t row array = if nat_lt row (fitting t (u16_of t array) (array + 2) 2) then offset16_of t array (array + 2 + 2 * row) else None

abbrev pub ligature_matrix : List ℕ → ℕ → ℕ → Option ℕ
ligature_matrix t start row = option_and_then (ligature_in t row) (offset16_of t start (start + 10))

-- the component that the mark was on when the ligature was made, else the last one; a mark's components count from 1
abbrev pub component_of : ℕ → Item → Item → ℕ
component_of count ligature mark = let id = ligature.properties.ligature_id in
    let component = mark.properties.ligature_component in
    (if nat_lt 0 id && nat_eq id mark.properties.ligature_id && nat_lt 0 component then min count component - 1 else count - 1)

abbrev pub mark_on_matrix : Lookup → ℕ → ℕ → ℕ → ℕ → Buffer → ℕ → Applied
mark_on_matrix l start i j number b matrix = let count = u16_of l.table.now matrix in
    (if nat_eq count 0 then unapplied (concat_marked j (i + 1) b)
    else mark_attached l start i j number (component_of count (nth b.items j) (nth b.items i)) (Some matrix) b)

abbrev pub mark_on_ligature : Lookup → ℕ → ℕ → ℕ → Buffer → ℕ → Applied
mark_on_ligature l start i number b j = option_map_or (mark_on_matrix l start i j number b)
    (option_and_then (ligature_matrix l.table.now start) (row_of l start j b)) (unapplied (concat_marked j (i + 1) b))

abbrev pub mark_ligature_at : Lookup → ℕ → Option ℕ → ℕ → Buffer → ℕ → Applied
mark_ligature_at l start base i b number =
    option_map_or (mark_on_ligature l start i number b) base (unapplied (concat_marked 0 (i + 1) b))

abbrev pub mark_ligature_applied : Lookup → ℕ → Option ℕ → ℕ → Buffer → Applied
mark_ligature_applied l start base i b =
    option_map_or (mark_ligature_at l start base i b) (mark_number l start i b) (unapplied b)

-- ---- to a mark

-- the flags skip no class of glyphs, but marks that are left out
abbrev pub for_marks : Lookup → Lookup
for_marks l = record l { flags = bit_and l.flags 0xFFF1 }

-- marks on one base, or on one component of a ligature; or one of them is a ligature itself
abbrev pub are_together : Item → Item → Bool
are_together x y = let a = x.properties.ligature_id in
    let b = y.properties.ligature_id in
    (if nat_eq a b then nat_eq a 0 || nat_eq x.properties.ligature_component y.properties.ligature_component
    else (nat_lt 0 a && nat_eq x.properties.ligature_component 0) || (nat_lt 0 b && nat_eq y.properties.ligature_component 0))

abbrev pub mark_on_mark : Lookup → ℕ → ℕ → ℕ → Buffer → ℕ → Applied
mark_on_mark l start i number b j = let other = nth b.items j in
    (if shares other.properties.glyph_class.0 8 && are_together (nth b.items i) other then mark_on_glyph l start i number b j
    else unapplied (concat_marked j (i + 1) b))

abbrev pub mark_mark_at : Lookup → ℕ → ℕ → Buffer → ℕ → Applied
mark_mark_at l start i b number = option_map_or (mark_on_mark l start i number b) (glyph_before (for_marks l) b.items i)
    (unapplied (concat_marked (start_before (for_marks l) b.items i) (i + 1) b))

abbrev pub mark_mark_applied : Lookup → ℕ → ℕ → Buffer → Applied
mark_mark_applied l start i b = option_map_or (mark_mark_at l start i b) (mark_number l start i b) (unapplied b)
