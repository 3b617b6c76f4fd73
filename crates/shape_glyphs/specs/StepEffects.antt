-- What the steps of a run do to clusters, flags and the number of positions.
use Rattle.std.specs.Prelude.{◌≡◌, ℕ, not, length, reverse, Contains, if◌then◌else◌}
use Rattle.std.specs.List.Sorted.{IsNonDecreasing}
use Rattle.shape_items.specs.Buffer.{Buffer}
use Rattle.shape_items.specs.ClusterOrder.{IsNonIncreasing, IsOrderedFor}
use Rattle.shape_items.specs.Clusters.{clusters}
use Rattle.shape_common.specs.Direction.{is_backward}

-- as many positions as items, if there were before
abbrev pub PreservesLengths : (Buffer → Buffer) → Type 0
PreservesLengths f = (b : Buffer) → length b.positions ≡ length b.items → length (f b).positions ≡ length (f b).items

-- what the reversal does: clusters are in the other order if the text runs backward, none is new, and direction, flags
-- and level stay
pub record ReversesOrder (before after : Buffer) : Type 0 where
  pub reversed : clusters after.items ≡ (if is_backward before.direction then reverse (clusters before.items) else clusters before.items)
  pub rising : IsNonDecreasing (clusters before.items) → IsOrderedFor (is_backward before.direction) (clusters after.items)
  pub falling : IsNonIncreasing (clusters before.items) → IsOrderedFor (not (is_backward before.direction)) (clusters after.items)
  pub none_new : (k : ℕ) → Contains (clusters after.items) k → Contains (clusters before.items) k
  pub direction : after.direction ≡ before.direction
  pub flags : after.flags ≡ before.flags
  pub level : after.cluster_level ≡ before.cluster_level
