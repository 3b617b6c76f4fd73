-- what is stored of the sets of ligatures of a table
use Rattle.std.specs.Prelude.{◌≡◌, ℕ, List, Some, None, ◌<◌, length, slice_index_or}
use Rattle.std.specs.Option.{ForSome}
use Rattle.layout_tables.specs.Lookups.{lookup_of}
use Rattle.layout_matching.specs.LigatureSets.{AreSets}
use Rattle.layout_matching.specs.declared.ligature_sets.StoredSets.{StoredSets}

-- the numbers that are stored are those of sets
abbrev pub AreBelow : StoredSets → Type 0
AreBelow stored = (i : ℕ) → i < length stored.numbers.items → ForSome (slice_index_or stored.numbers.items i None)
    (λ n. n < length stored.sets.items)

-- of the first subtable of the lookup with an index
abbrev pub AreSetsAt : List ℕ → ℕ → StoredSets → Type 0
AreSetsAt t index stored = (place : ℕ) → lookup_of t index ≡ Some place → AreSets t place stored

-- of each lookup, by its index
abbrev pub HoldSets : List ℕ → List StoredSets → Type 0
HoldSets t all = (index : ℕ) (none : StoredSets) → index < length all → AreSetsAt t index (slice_index_or all index none)
