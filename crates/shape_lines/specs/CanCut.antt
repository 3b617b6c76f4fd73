-- What can be cut into lines.
use Rattle.std.specs.Prelude.{ℕ, ◌<◌, ◌⊎◌, List, All}
use Rattle.std.specs.List.Sorted.{IsNonDecreasing}
use Rattle.shape_items.specs.Buffer.{Buffer}
use Rattle.shape_items.specs.ClusterOrder.{IsNonIncreasing}
use Rattle.shape_items.specs.Clusters.{clusters}
use Rattle.shape_items.specs.Flags.{HasOneSetOfFlags}

-- never falling, or never rising
abbrev pub IsMonotone : List ℕ → Type 0
IsMonotone xs = IsNonDecreasing xs ⊎ IsNonIncreasing xs

-- the glyphs of a text that ends at `text_end` can be cut: their clusters are monotone, each has one set of flags, and
-- is below that end
pub record CanCut (b : Buffer) (text_end : ℕ) : Type 0 where
  pub monotone : IsMonotone (clusters b.items)
  pub one_set : HasOneSetOfFlags b.items
  pub below : All (λ cluster. cluster < text_end) (clusters b.items)
