-- The lookups that a rule names, and the glyphs that they are applied at.
use Rattle.std.specs.Prelude.{ℕ, List, [], ◌∷◌, Option, None, ◌+◌, ◌-◌, ◌*◌, min, length, nat_eq, nat_lt, slice_index_or, if◌then◌else◌}
use Rattle.std.specs.Option.{option_map}
use Rattle.shape_font.specs.Bytes.{u16_of}
use Rattle.shape_items.specs.Items.{Item}
use Rattle.layout_tables.specs.Lookups.{lookup_of, mark_filtering_set_of}
use Rattle.layout_matching.specs.Input.{seek_input}
use Rattle.layout_matching.specs.Rules.{FAR}
use Rattle.layout_matching.specs.Seeking.{places_after}
use Rattle.layout_matching.specs.Skipping.{nth}
use Rattle.layout_matching.specs.declared.lookup.Lookup.{Lookup}
use Rattle.layout_matching.specs.declared.nesting.Target.{Target}
use Rattle.layout_matching.specs.declared.rules.Rule.{Rule}

-- another lookup of the table, on for the same glyphs
abbrev pub lookup_with : Lookup → ℕ → Lookup
lookup_with l place = record l { place = place; flags = u16_of l.table.now (place + 2); mark_set = mark_filtering_set_of l.table.now place }

-- record `r` of a rule: which of the matched glyphs, and which lookup
abbrev pub record_at : Rule → ℕ → ℕ
record_at rule r = min rule.lookups FAR + 4 * r

abbrev pub target_with : List ℕ → ℕ → Lookup → Target
target_with places index other = record { lookup = other; place = slice_index_or places index 0; index = index }

abbrev pub target_of : Lookup → Rule → List ℕ → ℕ → Option Target
target_of l rule places r = let index = u16_of l.table.now (record_at rule r) in
    (if nat_lt index (length places)
    then option_map (λ place. target_with places index (lookup_with l place))
    (lookup_of l.table.now (u16_of l.table.now (record_at rule r + 2)))
    else None)

-- the places of the glyphs that a rule matches, the first one at `at`; a rule of no glyph has none
abbrev pub places_of : Lookup → List Item → ℕ → Rule → List ℕ
places_of l items at rule = if nat_eq rule.input.count 0 then []
    else at ∷ places_after l (seek_input l (nth items at) rule.input) items (rule.input.count - 1) 0 at
