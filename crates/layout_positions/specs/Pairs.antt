-- Single and pair adjustment (OpenType, `GPOS`, lookup types 1 and 2).
use Rattle.std.specs.Prelude.{ℕ, ℤ, pos, false, List, Bool, Option, Some, None, ◌+◌, ◌*◌, ◌&&◌, ◌||◌, not, min, length, nat_eq, nat_lt, nat_le}
use Rattle.std.specs.Prelude.{is_some, if◌then◌else◌}
use Rattle.std.specs.Option.{option_map, option_map_or, option_and_then}
use Rattle.std.specs.declared.cmp.Ordering.{Ordering}
use Rattle.shape_common.specs.Direction.{is_horizontal}
use Rattle.shape_font.specs.Bytes.{u16_of, fitting}
use Rattle.shape_font.specs.Search.{side_of, found_by}
use Rattle.shape_items.specs.Buffer.{Buffer}
use Rattle.layout_tables.specs.Classes.{class_of}
use Rattle.layout_tables.specs.Offsets.{offset16_of}
use Rattle.layout_matching.specs.Skipping.{nth}
use Rattle.layout_matching.specs.declared.lookup.Lookup.{Lookup}
use Rattle.layout_positions.specs.Anchors.{number_at}
use Rattle.layout_positions.specs.Devices.{is_default}
use Rattle.layout_positions.specs.Edits.{position_changed, broken, concat_marked}
use Rattle.layout_positions.specs.Lookups.{Applied, unapplied, glyph_after, end_after}
use Rattle.layout_positions.specs.Values.{value_size, value_at, has_bytes, value_in, adjusted, has_effect, advance_only}
use Rattle.layout_positions.specs.declared.pairs.PairRecords.{PairRecords}
use Rattle.layout_positions.specs.declared.pairs.PairValues.{PairValues}
use Rattle.layout_positions.specs.declared.values.Adjustment.{Adjustment}

-- ---- single

-- format 1: the same for all glyphs; format 2: one for each
abbrev pub single_value : Lookup → ℕ → ℕ → Option Adjustment
single_value l start number = let t = l.table.now in
    let format = u16_of t (start + 4) in
    (if nat_eq (u16_of t start) 1 then value_in l format start (start + 6)
    else (if nat_eq (u16_of t start) 2 && nat_lt number (u16_of t (start + 6))
    then value_in l format start (start + 8 + number * value_size format) else None))

abbrev pub single_of : Lookup → ℕ → ℕ → Option Adjustment
single_of l start glyph = option_and_then (single_value l start) (number_at l.table.now start (start + 2) glyph)

abbrev pub glyph_adjusted : Adjustment → ℕ → Buffer → Buffer
glyph_adjusted v i b = position_changed (adjusted (is_horizontal b.direction) v) i b

abbrev pub single_put : ℕ → Buffer → Adjustment → Applied
single_put i b v = record { buffer = glyph_adjusted v i b; next = Some (i + 1) }

abbrev pub single_applied : Lookup → ℕ → ℕ → Buffer → Applied
single_applied l start i b = option_map_or (single_put i b) (single_of l start (nth b.items i).glyph_id) (unapplied b)

-- ---- pairs

-- the two records of a pair, of these formats, one after the other; offsets of devices count from `base`
abbrev pub records_at : Lookup → ℕ → ℕ → ℕ → ℕ → PairValues
records_at l first second base at = record {
  first = value_at l first base at;
  second = value_at l second base (at + value_size first);
  has_second = not (nat_eq second 0);
}

-- the same, by where they stand
abbrev pub values_of : Lookup → PairRecords → PairValues
values_of l r = records_at l r.first r.second r.base r.at

-- a record of the advance along a horizontal line, and none more, at no size of the font; no device of it counts at the default
-- instance, nor one at 0
abbrev pub is_advance_alone : Lookup → PairRecords → Bool
is_advance_alone l r = nat_eq r.second 0 && not (is_some l.scale)
    && (nat_eq r.first 4 || nat_eq r.first 0x44 && (is_default l || nat_eq (u16_of l.table.now (r.at + 2)) 0))

-- a pair that changes the advance of its first glyph alone
abbrev pub advance_values : ℤ → PairValues
advance_values x = record { first = advance_only x; second = advance_only (pos 0); has_second = false }

abbrev pub records_size : ℕ → ℕ → ℕ
records_size first second = value_size first + value_size second

abbrev pub records_if : Lookup → ℕ → ℕ → ℕ → ℕ → Option PairValues
records_if l first second base at =
    if has_bytes l.table.now at (records_size first second) then Some (records_at l first second base at) else None

-- in the formats of the subtable
abbrev pub pair_at : Lookup → ℕ → ℕ → ℕ → PairValues
pair_at l start base at = let t = l.table.now in records_at l (u16_of t (start + 4)) (u16_of t (start + 6)) base at

abbrev pub pair_size : List ℕ → ℕ → ℕ
pair_size t start = records_size (u16_of t (start + 4)) (u16_of t (start + 6))

abbrev pub pair_if : Lookup → ℕ → ℕ → Option PairValues
pair_if l start at = let t = l.table.now in records_if l (u16_of t (start + 4)) (u16_of t (start + 6)) start at

-- format 1: for each first glyph a set of second ones in order, each with the two records
abbrev pub pair_set : List ℕ → ℕ → ℕ → Option ℕ
pair_set t start number =
    if nat_lt number (fitting t (u16_of t (start + 8)) (start + 10) 2) then offset16_of t start (start + 10 + 2 * number) else None

abbrev pub side_of_second : List ℕ → ℕ → ℕ → ℕ → ℕ → Ordering
side_of_second t size set glyph r = let there = u16_of t (set + 2 + r * size) in side_of glyph there there

abbrev pub second_in : List ℕ → ℕ → ℕ → ℕ → Option ℕ
second_in t size glyph set = found_by (side_of_second t size set glyph) (fitting t (u16_of t set) (set + 2) size)

abbrev pub pair_in_set : Lookup → ℕ → ℕ → ℕ → Option PairValues
pair_in_set l start glyph set = let size = 2 + pair_size l.table.now start in
    option_map (λ r. pair_at l start set (set + 4 + r * size)) (second_in l.table.now size glyph set)

abbrev pub listed_pair : Lookup → ℕ → ℕ → ℕ → Option PairValues
listed_pair l start number glyph = option_and_then (pair_in_set l start glyph) (pair_set l.table.now start number)

-- format 2: for each class of the first glyph a row of those of the second one, class 0 first
abbrev pub class_at : List ℕ → ℕ → ℕ → ℕ → ℕ
class_at t start at glyph = option_map_or (λ classes. class_of t classes glyph) (offset16_of t start at) 0

abbrev pub classed_pair : Lookup → ℕ → ℕ → ℕ → Option PairValues
classed_pair l start left right = let t = l.table.now in
    let first = class_at t start (start + 8) left in
    let second = class_at t start (start + 10) right in
    (if nat_le (u16_of t (start + 12)) first || nat_le (u16_of t (start + 14)) second then None
    else pair_if l start (start + 16 + (first * u16_of t (start + 14) + second) * pair_size t start))

abbrev pub pair_of : Lookup → ℕ → ℕ → ℕ → ℕ → Option PairValues
pair_of l start number left right = if nat_eq (u16_of l.table.now start) 1 then listed_pair l start number right
    else (if nat_eq (u16_of l.table.now start) 2 then classed_pair l start left right else None)

-- glyphs that a pair moves are unsafe to break; those of classes that it doesn't move are unsafe to concat
abbrev pub pair_marked : Bool → Bool → ℕ → ℕ → Buffer → Buffer
pair_marked listed moved i j b = if moved then broken i (j + 1) b else (if listed then b else concat_marked i (j + 1) b)

-- a pair with a record for its second glyph goes on after that one, and what comes after is unsafe to break too
abbrev pub pair_ended : PairValues → ℕ → ℕ → Buffer → Applied
pair_ended v i j b = if v.has_second then record { buffer = broken i (min (j + 2) (length b.items)) b; next = Some (j + 1) }
    else record { buffer = b; next = Some j }

abbrev pub pair_moves : Bool → PairValues → Bool
pair_moves horizontal v = has_effect horizontal v.first || has_effect horizontal v.second

abbrev pub pair_put : Bool → ℕ → ℕ → Buffer → PairValues → Applied
pair_put listed i j b v = pair_ended v i j
    (pair_marked listed (pair_moves (is_horizontal b.direction) v) i j (glyph_adjusted v.second j (glyph_adjusted v.first i b)))

-- the glyph at a place and the next one that the lookup sees
abbrev pub pair_with : Lookup → ℕ → ℕ → ℕ → Buffer → ℕ → Applied
pair_with l start i number b j = option_map_or (pair_put (nat_eq (u16_of l.table.now start) 1) i j b)
    (pair_of l start number (nth b.items i).glyph_id (nth b.items j).glyph_id) (unapplied (concat_marked i (j + 1) b))

abbrev pub pair_at_number : Lookup → ℕ → ℕ → Buffer → ℕ → Applied
pair_at_number l start i b number =
    option_map_or (pair_with l start i number b) (glyph_after l b.items i) (unapplied (concat_marked i (end_after l b.items i) b))

abbrev pub has_pairs : List ℕ → ℕ → Bool
has_pairs t start = nat_eq (u16_of t start) 1 || nat_eq (u16_of t start) 2

abbrev pub pair_applied : Lookup → ℕ → ℕ → Buffer → Applied
pair_applied l start i b = if has_pairs l.table.now start
    then option_map_or (pair_at_number l start i b) (number_at l.table.now start (start + 2) (nth b.items i).glyph_id) (unapplied b)
    else unapplied b
