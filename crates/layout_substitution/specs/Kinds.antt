-- The lookups of kinds 1 to 4 at a place.
use Prim.Native.Nat.{zero}
use Rattle.std.specs.Prelude.{ℕ, suc, Option, Some, None, ◌+◌, ◌*◌, nat_eq, if◌then◌else◌}
use Rattle.std.specs.Option.{option_and_then, option_map_or}
use Rattle.shape_items.specs.Buffer.{Buffer}
use Rattle.layout_tables.specs.Lookups.{subtable_count_of, subtable_of}
use Rattle.layout_tables.specs.declared.lookups.LookupSubtable.{LookupSubtable}
use Rattle.layout_tables.specs.Offsets.{offset16_of}
use Rattle.layout_matching.specs.Loops.{first_some}
use Rattle.layout_matching.specs.declared.lookup.Lookup.{Lookup}
use Rattle.layout_substitution.specs.Applied.{Applied, unapplied, put_one, single_applied, multiple_applied, alternate_applied}
use Rattle.layout_substitution.specs.Edits.{is_past, item_at, put_at}
use Rattle.layout_substitution.specs.Ligatures.{ligature_applied}
use Rattle.layout_substitution.specs.Replaced.{replaced}
use Rattle.layout_substitution.specs.Substitutes.{single_of}
use Rattle.layout_substitution.specs.declared.apply.Spot.{Spot}

-- kinds 1 to 4
abbrev pub kind_applied : Lookup → Spot → Buffer → LookupSubtable → Applied
kind_applied l spot b subtable =
    if nat_eq subtable.kind 1 then single_applied l subtable.start spot b
    else (if nat_eq subtable.kind 2 then multiple_applied l subtable.start spot b
    else (if nat_eq subtable.kind 3 then alternate_applied l subtable.start spot b
    else (if nat_eq subtable.kind 4 then ligature_applied l subtable.start spot b else unapplied b)))

abbrev pub subtable_applied : Lookup → ℕ → Spot → Buffer → Applied
subtable_applied l i spot b = option_map_or (kind_applied l spot b) (subtable_of l.table.now 7 l.place i) (unapplied b)

-- what the next subtables make if one didn't apply; past the limit of the run nothing is done any more
abbrev pub or_else : (Buffer → Applied) → Applied → Option Spot → Applied
or_else next made (Some spot) = made
or_else next made None = next made.buffer

abbrev pub or_next : (Buffer → Applied) → Applied → Applied
or_next next made = if is_past made.buffer then made else or_else next made made.next

-- the first of `n` subtables from subtable `i` on that applies
abbrev pub subtables_applied : Lookup → Spot → ℕ → ℕ → Buffer → Applied
subtables_applied l spot zero i b = unapplied b
subtables_applied l spot (suc n) i b = or_next (subtables_applied l spot n (suc i)) (subtable_applied l i spot b)

abbrev pub lookup_applied : Lookup → Spot → Buffer → Applied
lookup_applied l spot b = subtables_applied l spot (subtable_count_of l.table.now l.place) 0 b

-- ---- a lookup of type 1

-- the glyph in place of this one, by subtable `i`, and by the first that has one
abbrev pub single_in : Lookup → ℕ → ℕ → Option ℕ
single_in l glyph i =
    option_and_then (λ start. single_of l.table.now start glyph) (offset16_of l.table.now l.place (l.place + 6 + 2 * i))

abbrev pub first_single : Lookup → ℕ → Option ℕ
first_single l glyph = first_some (single_in l glyph) (subtable_count_of l.table.now l.place) 0

abbrev pub single_put : Lookup → ℕ → Buffer → Buffer
single_put l at b = option_map_or (λ glyph. put_at at (replaced l 0 glyph (item_at b at)) b) (first_single l (item_at b at).glyph_id) b

abbrev pub singles_applied : Lookup → Spot → Buffer → Applied
singles_applied l spot b = option_map_or (put_one l spot b) (first_single l (item_at b spot.at).glyph_id) (unapplied b)
