-- The base of a mark as OpenType says it (`GPOS`, lookup types 4 and 5): from the mark backward, the first glyph that a mark may stand on.
use Rattle.std.specs.Prelude.{◌≡◌, ℕ, ◌<◌, Bool, true, false, List, Option, Some, None}
use Rattle.shape_items.specs.Items.{Item}
use Rattle.layout_tables.specs.declared.lookups.LookupSubtable.{LookupSubtable}
use Rattle.layout_matching.specs.declared.lookup.Lookup.{Lookup}
use Rattle.layout_positions.specs.Marks.{is_base_at}

-- place `j` passes, and no place between it and place `i` does
pub record IsNearest (p : ℕ → Bool) (i j : ℕ) : Type 0 where
  pub before : j < i
  pub passes : p j ≡ true
  pub none_between : (k : ℕ) → j < k → k < i → p k ≡ false

-- the nearest place before place `i` that passes, none if no place before it does
abbrev pub IsNearestOf : (ℕ → Bool) → ℕ → Option ℕ → Type 0
IsNearestOf p i None = (k : ℕ) → k < i → p k ≡ false
IsNearestOf p i (Some j) = IsNearest p i j

-- where the base of the mark at place `i` stands
abbrev pub IsBaseOf : Lookup → LookupSubtable → List Item → ℕ → Option ℕ → Type 0
IsBaseOf l subtable items = IsNearestOf (is_base_at l subtable items)
