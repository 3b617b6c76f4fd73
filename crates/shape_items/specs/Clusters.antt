-- Merging of clusters and marking of items, over lists of items.
use Rattle.std.specs.Prelude.{ℕ, ◌+◌, ◌-◌, ◌==◌, List, [], ◌∷◌, ◌++◌, map, take, drop, min, nat_lt, fold, slice_index, slice_range, if◌then◌else◌}
use Rattle.std.specs.Int.RustNames.{bit_or}
use Rattle.std.specs.List.{prefix_len, suffix_len}
use Rattle.shape_items.specs.Items.{Item, has_cluster, put_in}
use Rattle.shape_common.specs.FlagNames.{UNSAFE_TO_CONCAT, SAFE_TO_INSERT_TATWEEL, UNSAFE}

-- the clusters of a list
abbrev pub clusters : List Item → List ℕ
clusters xs = map (λ item. item.cluster) xs

-- the least cluster of a list, 0 for none
abbrev pub least_cluster : List Item → ℕ
least_cluster [] = 0
least_cluster (x ∷ xs) = fold (λ least item. min least item.cluster) x.cluster xs

-- how far a span of that least cluster grows left: over the items directly before `start` in the cluster of its first
-- item, if that isn't the least
abbrev pub growth_left : List Item → ℕ → ℕ → ℕ
growth_left xs start least =
    let first = slice_index (clusters xs) start in
    if first == least then 0 else suffix_len (has_cluster first) (take start xs)

-- how far a span of that least cluster grows right: over the items directly after its last one in that one's cluster,
-- if that isn't the least
abbrev pub growth_right : List Item → ℕ → ℕ → ℕ
growth_right xs last least =
    let cluster = slice_index (clusters xs) last in
    if cluster == least then 0 else prefix_len (has_cluster cluster) (drop (last + 1) xs)

-- f over the items from place `from` up to place `to`, the others as they were
abbrev pub map_range : (Item → Item) → ℕ → ℕ → List Item → List Item
map_range f from to xs = take from xs ++ (map f (slice_range xs from to) ++ drop to xs)

-- those items in one cluster
abbrev pub put_range : ℕ → ℕ → ℕ → List Item → List Item
put_range from to cluster xs = map_range (put_in cluster) from to xs

-- Merge: the span from `start` up to `end`, grown on both sides, in its least cluster; a span of fewer than two items
-- changes nothing
unfoldable pub merge : ℕ → ℕ → List Item → List Item
merge start end xs =
    let least = least_cluster (slice_range xs start end) in
    if nat_lt (start + 1) end then
    put_range (start - growth_left xs start least) (end + growth_right xs (end - 1) least) least xs
    else xs

-- the item marked unsafe to break and to concat, except for one in that least cluster
abbrev pub mark_break : ℕ → Item → Item
mark_break least item =
    if item.cluster == least then item else record item { mask = bit_or item.mask UNSAFE }

-- the item marked safe to insert tatweel, except for one in that least cluster
abbrev pub mark_tatweel : ℕ → Item → Item
mark_tatweel least item =
    if item.cluster == least then item else record item { mask = bit_or item.mask SAFE_TO_INSERT_TATWEEL }

-- the item marked unsafe to concat
abbrev pub mark_concat : Item → Item
mark_concat item = record item { mask = bit_or item.mask UNSAFE_TO_CONCAT }
