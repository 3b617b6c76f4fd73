-- What steps do to clusters that may be out of order: they bring none, or they put them in order.
use Rattle.std.specs.Prelude.{◌≡◌, ℕ, Bool, Contains}
use Rattle.shape_items.specs.Buffer.{Buffer}
use Rattle.shape_items.specs.ClusterOrder.{IsMonotoneLevel, IsOrderedFor}
use Rattle.shape_items.specs.Clusters.{clusters}

-- no cluster is new, and direction, flags and level stay; of order nothing is said
pub record HasNoNewCluster (before after : Buffer) : Type 0 where
  pub none_new : (k : ℕ) → Contains (clusters after.items) k → Contains (clusters before.items) k
  pub direction : after.direction ≡ before.direction
  pub flags : after.flags ≡ before.flags
  pub level : after.cluster_level ≡ before.cluster_level

-- a step that brings no cluster, at the monotone levels
abbrev pub IsBringingNoCluster : (Buffer → Buffer) → Type 0
IsBringingNoCluster f = (b : Buffer) → IsMonotoneLevel b.cluster_level → HasNoNewCluster b (f b)

-- clusters are in order, rising or falling, whatever they were before
pub record ComesToOrder (backward : Bool) (before after : Buffer) : Type 0 where
  pub ordered : IsOrderedFor backward (clusters after.items)
  pub none : HasNoNewCluster before after

-- a step that puts clusters in order, at the monotone levels
abbrev pub IsOrdering : Bool → (Buffer → Buffer) → Type 0
IsOrdering backward f = (b : Buffer) → IsMonotoneLevel b.cluster_level → ComesToOrder backward b (f b)
