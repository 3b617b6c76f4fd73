-- The order of clusters, and what preserves it.
use Rattle.std.specs.Prelude.{ℕ, ◌<◌, ◌≤◌, ⊤, Bool, true, false, List, length, slice_index_or, Contains}
use Rattle.std.specs.List.Sorted.{IsNonDecreasing}
use Rattle.shape_common.specs.declared.text_types.BufferClusterLevel.{BufferClusterLevel}
use Rattle.shape_common.specs.declared.text_types.BufferClusterLevel.TheVariants.{MonotoneGraphemes, MonotoneCharacters, Characters}

-- a level at which clusters are merged
abbrev pub IsMonotoneLevel : BufferClusterLevel → Type 0
IsMonotoneLevel MonotoneGraphemes = ⊤
IsMonotoneLevel MonotoneCharacters = ⊤
IsMonotoneLevel Characters = ⊥

-- no cluster is below one that comes after it
abbrev pub IsNonIncreasing : List ℕ → Type 0
IsNonIncreasing xs = (i j : ℕ) (d : ℕ) → i ≤ j → j < length xs → slice_index_or xs j d ≤ slice_index_or xs i d

-- nondecreasing if text runs forward, nonincreasing if it runs backward
abbrev pub IsOrderedFor : Bool → List ℕ → Type 0
IsOrderedFor true xs = IsNonIncreasing xs
IsOrderedFor false xs = IsNonDecreasing xs

-- order stays order, and no cluster is new
pub record PreservesClusters (before after : List ℕ) : Type 0 where
  pub rising : IsNonDecreasing before → IsNonDecreasing after
  pub falling : IsNonIncreasing before → IsNonIncreasing after
  pub none_new : (k : ℕ) → Contains after k → Contains before k
