-- A lookup of type 4 at a place, gone over once: what is left, and the ligature that stands there.
use Rattle.std.specs.Prelude.{ℕ, List, Option, None, ◌+◌, ◌*◌}
use Rattle.std.specs.Option.{option_and_then, option_map, option_or}
use Rattle.shape_items.specs.Buffer.{Buffer}
use Rattle.layout_tables.specs.Lookups.{subtable_count_of}
use Rattle.layout_tables.specs.Offsets.{offset16_of}
use Rattle.layout_matching.specs.Loops.{first_some}
use Rattle.layout_matching.specs.Work.{charged_at_subtable, subtable_charged, subtables_charged}
use Rattle.layout_matching.specs.declared.lookup.Lookup.{Lookup}
use Rattle.layout_substitution.specs.Edits.{item_at}
use Rattle.layout_substitution.specs.Ligatures.{ligature_found}
use Rattle.layout_substitution.specs.Substitutes.{set_of}
use Rattle.layout_substitution.specs.declared.ligature.Components.{Components}
use Rattle.layout_substitution.specs.declared.ligature_sought.SoughtLigature.{SoughtLigature}

-- the first of the glyph's set that stands there, by the subtable at `start`, and by subtable `i`
abbrev pub found_by : Lookup → Buffer → ℕ → ℕ → Option Components
found_by l b at start = option_and_then (ligature_found l b at) (set_of l.table.now start (item_at b at).glyph_id)

abbrev pub found_in : Lookup → Buffer → ℕ → ℕ → Option Components
found_in l b at i = option_and_then (found_by l b at) (offset16_of l.table.now l.place (l.place + 6 + 2 * i))

-- by the first subtable that has one
abbrev pub first_ligature : Lookup → Buffer → ℕ → Option Components
first_ligature l b at = first_some (found_in l b at) (subtable_count_of l.table.now l.place) 0

-- with one more: it counts if none was found before
abbrev pub with_found : Option Components → Option Components → ℕ → SoughtLigature
with_found before found left = record { left = left; found = option_or before found }

-- after all subtables, if what was left suffices
abbrev pub all_sought : Lookup → Buffer → ℕ → ℕ → Option SoughtLigature
all_sought l b at left = option_map (with_found None (first_ligature l b at)) (subtables_charged l b.items at left)

-- after the subtable at `start`, and after subtable `i`
abbrev pub sought_by : Lookup → Buffer → ℕ → ℕ → SoughtLigature → Option SoughtLigature
sought_by l b at start s = option_map (with_found s.found (found_by l b at start))
    (subtable_charged l b.items at s.left (record { kind = 4; start = start }))

abbrev pub sought_step : Lookup → Buffer → ℕ → ℕ → SoughtLigature → Option SoughtLigature
sought_step l b at i s =
    option_map (with_found s.found (found_in l b at i)) (charged_at_subtable l b.items at i s.left)
