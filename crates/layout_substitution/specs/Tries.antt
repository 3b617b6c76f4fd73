-- What a lookup of kinds 1 to 4 tries at a place, as a count over the steps of its definition.
use Prim.Native.Nat.{zero}
use Rattle.std.specs.Prelude.{ℕ, suc, Option, ◌+◌, ◌||◌, is_some, nat_eq, if◌then◌else◌}
use Rattle.std.specs.Option.{option_map_or}
use Rattle.shape_items.specs.Buffer.{Buffer}
use Rattle.layout_tables.specs.Lookups.{subtable_count_of, subtable_of}
use Rattle.layout_tables.specs.declared.lookups.LookupSubtable.{LookupSubtable}
use Rattle.layout_matching.specs.Tries.{counted_to_first, each_one}
use Rattle.layout_matching.specs.declared.lookup.Lookup.{Lookup}
use Rattle.layout_substitution.specs.Applied.{Applied}
use Rattle.layout_substitution.specs.Edits.{item_at, is_past}
use Rattle.layout_substitution.specs.Kinds.{subtable_applied}
use Rattle.layout_substitution.specs.Ligatures.{ligature_in}
use Rattle.layout_substitution.specs.Substitutes.{set_of, listed_count}
use Rattle.layout_substitution.specs.declared.apply.Spot.{Spot}

-- the ligatures of a set, up to the first that stands there
abbrev pub ligatures_of_set : Lookup → Buffer → ℕ → ℕ → ℕ
ligatures_of_set l b at set = counted_to_first each_one (ligature_in l b at set) (listed_count l.table.now set) 0

abbrev pub ligatures_of : Lookup → Buffer → ℕ → LookupSubtable → ℕ
ligatures_of l b at subtable = if nat_eq subtable.kind 4
    then option_map_or (ligatures_of_set l b at) (set_of l.table.now subtable.start (item_at b at).glyph_id) 0 else 0

abbrev pub ligatures_at : Lookup → ℕ → ℕ → Buffer → ℕ
ligatures_at l at i b = option_map_or (ligatures_of l b at) (subtable_of l.table.now 7 l.place i) 0

-- the subtables after one are tried if it didn't apply
abbrev pub counted_after : (Buffer → ℕ) → Applied → ℕ
counted_after next made = if is_past made.buffer || is_some made.next then 0 else next made.buffer

-- what `n` subtables from subtable `i` on count, up to the first that applies
abbrev pub counted_subtables : (ℕ → Buffer → ℕ) → Lookup → Spot → ℕ → ℕ → Buffer → ℕ
counted_subtables count l spot zero i b = 0
counted_subtables count l spot (suc n) i b =
    count i b + counted_after (counted_subtables count l spot n (suc i)) (subtable_applied l i spot b)

abbrev pub each_subtable : ℕ → Buffer → ℕ
each_subtable i b = 1

abbrev pub subtables_asked : Lookup → Spot → Buffer → ℕ
subtables_asked l spot b = counted_subtables each_subtable l spot (subtable_count_of l.table.now l.place) 0 b

abbrev pub ligatures_tried : Lookup → Spot → Buffer → ℕ
ligatures_tried l spot b = counted_subtables (ligatures_at l spot.at) l spot (subtable_count_of l.table.now l.place) 0 b
