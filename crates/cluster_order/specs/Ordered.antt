-- Items put in the order of their clusters.
use Rattle.std.specs.Prelude.{◌≡◌, Bool, true, false, List, [], ◌∷◌, length, min, reverse}
use Rattle.shape_items.specs.Buffer.{Buffer}
use Rattle.shape_items.specs.ClusterOrder.{IsOrderedFor}
use Rattle.shape_items.specs.Clusters.{clusters}
use Rattle.shape_items.specs.Items.{Item, put_in}
use Rattle.shape_common.specs.declared.text_types.BufferClusterLevel.TheVariants.{MonotoneGraphemes, MonotoneCharacters, Characters}

-- an item in the lesser of its cluster and that of the first item behind it
abbrev pub joined_to : Item → List Item → Item
joined_to x [] = x
joined_to x (y ∷ ys) = put_in (min x.cluster y.cluster) x

-- each item in the least cluster from it on
abbrev pub joined_ahead : List Item → List Item
joined_ahead [] = []
joined_ahead (x ∷ xs) = joined_to x (joined_ahead xs) ∷ joined_ahead xs

-- the same as the text runs: if it runs backward, in the least cluster up to it
abbrev pub joined_for : Bool → List Item → List Item
joined_for true xs = reverse (joined_ahead (reverse xs))
joined_for false xs = joined_ahead xs

-- clusters put in the order of a direction, at the monotone levels
unfoldable pub clusters_ordered : Bool → Buffer → Buffer
clusters_ordered backward b = elim b.cluster_level [
  | MonotoneGraphemes ↦ record b { items = joined_for backward b.items }
  | MonotoneCharacters ↦ record b { items = joined_for backward b.items }
  | Characters ↦ b
]

-- what is in order stays as it is
abbrev pub LeavesOrdered : (Bool → Buffer → Buffer) → Type 0
LeavesOrdered f = (backward : Bool) (b : Buffer) → IsOrderedFor backward (clusters b.items) → f backward b ≡ b

-- as many items as before
abbrev pub LeavesCount : (Bool → Buffer → Buffer) → Type 0
LeavesCount f = (backward : Bool) (b : Buffer) → length (f backward b).items ≡ length b.items
