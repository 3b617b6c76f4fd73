-- Merging of clusters round a gap.
use Rattle.std.specs.Prelude.{ℕ, ◌-◌, ◌==◌, List, length, drop, slice_index, if◌then◌else◌}
use Rattle.std.specs.List.{prefix_len}
use Rattle.shape_items.specs.Items.{Item, has_cluster}
use Rattle.shape_items.specs.Clusters.{clusters, least_cluster}

-- how far the merge of a span from `start` up to the end of `front` grows over what comes after it
abbrev pub growth_after : ℕ → List Item → List Item → ℕ
growth_after start front after =
    let last = slice_index (clusters front) (length front - 1) in
    if last == least_cluster (drop start front) then 0 else prefix_len (has_cluster last) after
