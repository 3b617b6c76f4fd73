-- How many items a merging writes beside its span.
use Rattle.std.specs.Prelude.{ℕ, ◌+◌, nat_lt, List, slice_range, if◌then◌else◌}
use Rattle.shape_common.specs.declared.text_types.BufferClusterLevel.TheVariants.{MonotoneGraphemes, MonotoneCharacters, Characters}
use Rattle.shape_items.specs.Buffer.{Buffer}
use Rattle.shape_items.specs.Clusters.{least_cluster, growth_left, growth_right}
use Rattle.shape_items.specs.Items.{Item}

-- those that the span from one item to another grows over; a span of fewer than two items over none
abbrev pub grown_over : ℕ → ℕ → List Item → ℕ
grown_over at last items = let least = least_cluster (slice_range items at (last + 1)) in
    (if nat_lt at last then growth_left items at least + growth_right items last least else 0)

-- level CHARACTERS merges none
abbrev pub merged_beside : ℕ → ℕ → Buffer → ℕ
merged_beside at last b = elim b.cluster_level [
  | MonotoneGraphemes ↦ grown_over at last b.items
  | MonotoneCharacters ↦ grown_over at last b.items
  | Characters ↦ 0
]
