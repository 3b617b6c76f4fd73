-- The ligatures of a set that the glyph after a place refuses, by their second component.
use Rattle.std.specs.Prelude.{◌≡◌, ℕ, List, Bool, true, Option, ◌+◌, ◌<◌, ◌&&◌, min, nat_lt, if◌then◌else◌}
use Rattle.std.specs.Option.{option_and_then, option_map_or}
use Rattle.shape_font.specs.Bytes.{u16_of}
use Rattle.shape_items.specs.Items.{Item}
use Rattle.layout_matching.specs.Found.{number_of}
use Rattle.layout_matching.specs.Glance.{any_glyph, glance_after, refuses}
use Rattle.layout_matching.specs.Input.{seek_input}
use Rattle.layout_matching.specs.Rules.{FAR, row, rules_at, rule_place}
use Rattle.layout_matching.specs.Seeking.{fits}
use Rattle.layout_matching.specs.Skipping.{nth}
use Rattle.layout_matching.specs.declared.glance.Glance.{Glance}
use Rattle.layout_matching.specs.declared.glance.Glance.TheVariants.{Closed, Only}
use Rattle.layout_matching.specs.declared.lookup.Lookup.{Lookup}
use Rattle.layout_matching.specs.declared.rules.Test.TheVariants.{Glyph}
use Rattle.layout_matching.specs.declared.seeking.Seek.{Seek}

-- what a glyph says that isn't passed over
abbrev pub nearest_glance : Lookup → Seek → Item → Glance
nearest_glance l seek item = if fits l (any_glyph seek) 0 item then Only item.glyph_id else Closed

-- what the next glyph says of the second component of all ligatures, and which ones it refuses
abbrev pub second_glance : Lookup → List Item → ℕ → Glance
second_glance l items at = glance_after l (seek_input l (nth items at) (row Glyph 0 0 0)) items at

abbrev pub begins_with_another : List ℕ → Glance → ℕ → Bool
begins_with_another t second ligature = nat_lt 1 (u16_of t (ligature + 2)) && refuses t (min (ligature + 4) FAR) second

-- number `r` of those at `set`; a NULL offset is no ligature
abbrev pub is_out : List ℕ → Glance → ℕ → ℕ → Bool
is_out t second set r = option_map_or (begins_with_another t second) (rule_place t set r) true

-- each of those before number `n`
abbrev pub AreOut : List ℕ → Glance → ℕ → ℕ → Type 0
AreOut t second set n = (r : ℕ) → r < n → is_out t second set r ≡ true

-- the set for the glyph at a place
abbrev pub set_there : Lookup → List Item → ℕ → ℕ → Option ℕ
set_there l items at start = option_and_then (rules_at l.table.now start 4) (number_of l.table.now start (nth items at).glyph_id)
