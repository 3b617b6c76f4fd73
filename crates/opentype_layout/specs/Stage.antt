-- a stage of substitution under way
use Rattle.std.specs.Prelude.{◌≡◌, ℕ, false, List, ◌∷◌, Option, drop, ◌<◌, ◌^◌}
use Rattle.std.specs.Option.{IfSome, option_map_or}
use Rattle.shape_items.specs.Buffer.{Buffer}
use Rattle.shape_items.specs.Items.{Item}
use Rattle.layout_map.specs.declared.lookups.LookupMap.{LookupMap}
use Rattle.layout_matching.specs.declared.lookup.Lookup.{Lookup}
use Rattle.layout_digests.specs.LigatureSets.{HoldSets}
use Rattle.layout_digests.specs.Stored.{AreStored}
use Rattle.layout_digests.specs.WholeRules.{HoldWholes}
use Rattle.layout_substitution.specs.declared.apply.Spot.{Spot}
use Rattle.layout_context.specs.Stages.{all_looked_up, stage_ended, most_levels}
use Rattle.opentype_layout.specs.Lookups.{IsListOf, lookup_of, lookups_of}
use Rattle.opentype_layout.specs.declared.lookups.LookupTables.{LookupTables}
use Rattle.opentype_layout.specs.declared.stage.Progress.{Progress}
use Rattle.opentype_layout.specs.declared.stage.StageLookups.{StageLookups}

-- lookups of substitution, the list that they stand in, and what is stored of them
pub record AreReady (s : StageLookups) : Type 0 where
  pub kind : s.tables.positioning ≡ false
  pub list : IsListOf s.tables.table.now s.list
  pub near : IfSome s.list.place (λ place. place < 2 ^ 16)
  pub stored : AreStored s.tables.table.now s.tables.positioning s.stored.firsts.now s.stored.lookups.now
  pub sets : HoldSets s.tables.table.now s.stored.sets.now
  pub wholes : HoldWholes s.tables.table.now s.tables.positioning s.stored.wholes.now

-- what lookups make of a buffer
abbrev pub made_by : List Lookup → Buffer → Spot → Buffer
made_by ls b spot = stage_ended (all_looked_up most_levels ls (record { buffer = b; spot = spot }))

-- what those of a stage make of it, from one on
abbrev pub made_from : LookupTables → List LookupMap → ℕ → Buffer → Spot → Buffer
made_from t maps next = made_by (lookups_of t (drop next maps))

-- lookups with one before them, if there is one
abbrev pub after : Option Lookup → List Lookup → List Lookup
after first ls = option_map_or (λ l. l ∷ ls) first ls

-- a lookup that does nothing to a list, but is charged for
abbrev pub Skips : LookupTables → LookupMap → List Item → ℕ → ℕ → Type 0
Skips t m items left rest = (b : Buffer) (spot : Spot) (ls : List Lookup) → b.items ≡ items
    → made_by ls b (record spot { left = rest }) ≡ made_by (after (lookup_of t m) ls) b (record spot { left = left })

-- the same of all from one to another
abbrev pub SkipsTo : LookupTables → List LookupMap → List Item → Progress → Progress → Type 0
SkipsTo t maps items from to = (b : Buffer) (spot : Spot) → b.items ≡ items
    → made_from t maps to.next b (record spot { left = to.left }) ≡ made_from t maps from.next b (record spot { left = from.left })
