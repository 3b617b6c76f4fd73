-- A lookup at a place: its first subtable that applies.
use Rattle.std.specs.Prelude.{ℕ, Bool, List, Option, Some, None, ◌+◌, ◌-◌, ◌*◌, ◌&&◌, ◌||◌, is_some, nat_eq, if◌then◌else◌}
use Rattle.std.specs.Option.{option_map_or}
use Rattle.shape_font.specs.Bytes.{u16_of}
use Rattle.shape_items.specs.Buffer.{Buffer}
use Rattle.shape_items.specs.Items.{Item}
use Rattle.layout_tables.specs.Lookups.{subtable_count_of, subtable_of}
use Rattle.layout_tables.specs.declared.lookups.LookupSubtable.{LookupSubtable}
use Rattle.layout_matching.specs.Loops.{times}
use Rattle.layout_matching.specs.Work.{charged}
use Rattle.layout_matching.specs.declared.lookup.Lookup.{Lookup}
use Rattle.layout_positions.specs.Cursive.{cursive_applied, cursive_links}
use Rattle.layout_positions.specs.Lookups.{Applied, unapplied}
use Rattle.layout_positions.specs.Marks.{base_seen, seek_work, mark_number, mark_base_applied, mark_ligature_applied, mark_mark_applied}
use Rattle.layout_positions.specs.Pairs.{single_applied, pair_applied}
use Rattle.layout_positions.specs.declared.bases.BaseSeen.{BaseSeen}
use Rattle.layout_positions.specs.declared.subtables.Sought.{Sought}

-- types 1 to 6; those that have one format alone are of format 1
abbrev pub if_first_format : Lookup → ℕ → Buffer → Applied → Applied
if_first_format l start b made = if nat_eq (u16_of l.table.now start) 1 then made else unapplied b

abbrev pub kind_applied : Lookup → LookupSubtable → Option ℕ → ℕ → Buffer → Applied
kind_applied l subtable base i b =
    if nat_eq subtable.kind 1 then single_applied l subtable.start i b
    else (if nat_eq subtable.kind 2 then pair_applied l subtable.start i b
    else (if nat_eq subtable.kind 3 then if_first_format l subtable.start b (cursive_applied l subtable.start i b)
    else (if nat_eq subtable.kind 4 then if_first_format l subtable.start b (mark_base_applied l subtable.start base i b)
    else (if nat_eq subtable.kind 5 then if_first_format l subtable.start b (mark_ligature_applied l subtable.start base i b)
    else (if nat_eq subtable.kind 6 then if_first_format l subtable.start b (mark_mark_applied l subtable.start i b) else unapplied b)))))

-- a subtable that attaches marks to bases or to ligatures looks for the base of a mark that it has
abbrev pub looks_for_base : Lookup → LookupSubtable → ℕ → Buffer → Bool
looks_for_base l subtable i b = (nat_eq subtable.kind 4 || nat_eq subtable.kind 5) && nat_eq (u16_of l.table.now subtable.start) 1
    && is_some (mark_number l subtable.start i b)

-- what a lookup leaves: where it goes on, the base that was seen last, and what is left for the lookups to come
pub record Placing : Type 0 where
  pub buffer : Buffer
  pub next : Option ℕ
  pub seen : BaseSeen
  pub left : ℕ

abbrev pub unplaced : ℕ → BaseSeen → Buffer → Placing
unplaced left seen b = record { buffer = b; next = None; seen = seen; left = left }

-- the search is charged for before the subtable is applied
abbrev pub sought_from : Lookup → LookupSubtable → List Item → ℕ → BaseSeen → ℕ → BaseSeen → Sought
sought_from l subtable items i before left seen =
    record { seen = seen; left = charged (seek_work l subtable items i before seen.place) left }

-- a link of a chain that cursive attachment turns round
abbrev pub LINK_WORK : ℕ
LINK_WORK = 2

abbrev pub links_of : Lookup → LookupSubtable → ℕ → Buffer → ℕ
links_of l subtable i b = if nat_eq (u16_of l.table.now subtable.start) 1 then cursive_links l subtable.start i b else 0

-- each of them is charged, as far as what is left suffices; once nothing is left, none is turned
abbrev pub links_charged : Lookup → LookupSubtable → ℕ → Buffer → ℕ → Option ℕ
links_charged l subtable i b left = if nat_eq left 0 then None else Some (left - links_of l subtable i b * LINK_WORK)

abbrev pub unsought : Lookup → LookupSubtable → ℕ → Buffer → ℕ → Option ℕ
unsought l subtable i b left = if nat_eq subtable.kind 3 then links_charged l subtable i b left else Some left

abbrev pub sought : Lookup → LookupSubtable → ℕ → Buffer → BaseSeen → ℕ → Sought
sought l subtable i b seen left = if looks_for_base l subtable i b
    then sought_from l subtable b.items i seen left (base_seen l subtable b.items i seen) else record { seen = seen; left = unsought l subtable i b left }

abbrev pub kind_placed : Lookup → LookupSubtable → ℕ → Buffer → BaseSeen → ℕ → Placing
kind_placed l subtable i b seen left = let made = kind_applied l subtable seen.place i b in
    record { buffer = made.buffer; next = made.next; seen = seen; left = left }

-- if what is left doesn't suffice, nothing is left
abbrev pub subtable_placed : Lookup → LookupSubtable → ℕ → Buffer → Sought → Placing
subtable_placed l subtable i b s = option_map_or (kind_placed l subtable i b s.seen) s.left (unplaced 0 s.seen b)

-- the subtables before number `subtable` have been tried
pub record Trial : Type 0 where
  pub buffer : Buffer
  pub next : Option ℕ
  pub seen : BaseSeen
  pub left : ℕ
  pub subtable : ℕ

abbrev pub trial_of : Trial → Placing → Trial
trial_of s made = record { buffer = made.buffer; next = made.next; seen = made.seen; left = made.left; subtable = s.subtable + 1 }

abbrev pub subtable_tried : Lookup → ℕ → Trial → LookupSubtable → Trial
subtable_tried l i s subtable = trial_of s (subtable_placed l subtable i s.buffer (sought l subtable i s.buffer s.seen s.left))

abbrev pub next_tried : Lookup → ℕ → Trial → Trial
next_tried l i s = option_map_or (subtable_tried l i s) (subtable_of l.table.now 9 l.place s.subtable)
    (trial_of s (unplaced s.left s.seen s.buffer))

-- the first subtable that applies ends the trial
abbrev pub trial_step : Lookup → ℕ → Trial → Trial
trial_step l i s = if is_some s.next then record s { subtable = s.subtable + 1 } else next_tried l i s

abbrev pub lookup_tried : Lookup → ℕ → ℕ → BaseSeen → Buffer → Trial
lookup_tried l i left seen b = times (trial_step l i) (subtable_count_of l.table.now l.place)
    (record { buffer = b; next = None; seen = seen; left = left; subtable = 0 })

abbrev pub placed_by : Trial → Placing
placed_by s = record { buffer = s.buffer; next = s.next; seen = s.seen; left = s.left }

abbrev pub lookup_placed : Lookup → ℕ → ℕ → BaseSeen → Buffer → Placing
lookup_placed l i left seen b = placed_by (lookup_tried l i left seen b)
