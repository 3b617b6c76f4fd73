-- Edits of a list at a place; past the end nothing changes.
use Rattle.std.specs.Prelude.{ℕ, List, [], ◌∷◌, ◌++◌, ◌+◌, ◌-◌, ◌&&◌, Bool, drop, length, nat_le, nat_lt, slice_index_or, slice_set, take, if◌then◌else◌}
use Rattle.shape_common.specs.declared.text_types.BufferClusterLevel.TheVariants.{MonotoneGraphemes, MonotoneCharacters, Characters}
use Rattle.shape_items.specs.Buffer.{Buffer, limit_of}
use Rattle.shape_items.specs.BufferClusters.{merge_clusters, unsafe_to_break}
use Rattle.shape_items.specs.Clusters.{merge}
use Rattle.shape_items.specs.Items.{Item, new_item}

-- the item at a place, a new one past the end
abbrev pub item_at : Buffer → ℕ → Item
item_at b i = slice_index_or b.items i (new_item 0 0)

-- another item at a place
abbrev pub put_at : ℕ → Item → Buffer → Buffer
put_at i item b = if nat_lt i (length b.items) then record b { items = slice_set b.items i item } else b

-- other items from a place on
abbrev pub written : ℕ → List Item → Buffer → Buffer
written at [] b = b
written at (x ∷ xs) b = written (at + 1) xs (put_at at x b)

-- the clusters of a span merged
abbrev pub merged : ℕ → ℕ → Buffer → Buffer
merged start end b = if nat_le start end && nat_le end (length b.items) then merge_clusters start end b else b

-- a list with a span merged as if the list began there: what follows in the cluster of its last item goes along, and what stands
-- before it stays
abbrev pub merge_onwards : ℕ → ℕ → List Item → List Item
merge_onwards start end xs = take start xs ++ merge 0 (end - start) (drop start xs)

-- a span merged so at the monotone levels, marked unsafe to break at level CHARACTERS
abbrev pub onwards : ℕ → ℕ → Buffer → Buffer
onwards start end b = elim b.cluster_level [
  | MonotoneGraphemes ↦ record b { items = merge_onwards start end b.items }
  | MonotoneCharacters ↦ record b { items = merge_onwards start end b.items }
  | Characters ↦ unsafe_to_break start end b
]

abbrev pub merged_onwards : ℕ → ℕ → Buffer → Buffer
merged_onwards start end b = if nat_le start end && nat_le end (length b.items) then onwards start end b else b

-- a span marked unsafe to break
abbrev pub broken : ℕ → ℕ → Buffer → Buffer
broken start end b = if nat_le start end && nat_le end (length b.items) then unsafe_to_break start end b else b

-- more items than the run may have
abbrev pub is_past : Buffer → Bool
is_past b = nat_lt (limit_of b) (length b.items)

-- what lookups may still ask for, less what this cost
abbrev pub charged : ℕ → Buffer → Buffer
charged work b = record b { max_ops = b.max_ops - work }
