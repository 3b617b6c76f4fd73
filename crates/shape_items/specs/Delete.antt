-- Deletion of the glyphs that a test picks.
use Rattle.std.specs.Prelude.{ℕ, zero, suc, ◌+◌, ◌-◌, Bool, false, List, [], ◌∷◌, length, take, drop, remove, nat_lt, slice_index, if◌then◌else◌}
use Rattle.std.specs.Int.RustNames.{bit_and, bit_or}
use Rattle.std.specs.List.{suffix_len}
use Rattle.shape_items.specs.Items.{Item, has_cluster, feature_bits}
use Rattle.shape_items.specs.Clusters.{clusters, map_range}
use Rattle.shape_items.specs.Buffer.{Buffer}
use Rattle.shape_items.specs.BufferClusters.{merge_clusters}
use Rattle.shape_common.specs.FlagNames.{DEFINED}

-- a kept item that takes the cluster and the defined flags of the picked one
abbrev pub hand_over : Item → Item → Item
hand_over picked item = record item { cluster = picked.cluster; mask = bit_or (feature_bits item.mask) (bit_and picked.mask DEFINED) }

-- the first `kept` items are kept: if the picked item's cluster is below that of the last one, all at their end with
-- the last one's cluster take the picked one's
abbrev pub give_to_kept : ℕ → Item → List Item → List Item
give_to_kept kept picked xs =
    let last = slice_index (clusters xs) (kept - 1) in
    if nat_lt picked.cluster last then
    map_range (hand_over picked) (kept - suffix_len (has_cluster last) (take kept xs)) kept xs
    else xs

-- the list begins with an item of the cluster
abbrev pub begins_in : ℕ → List Item → Bool
begins_in cluster [] = false
begins_in cluster (x ∷ xs) = has_cluster cluster x

-- the four cases: what becomes of the others before the picked item at place `kept` goes; `rest` comes after it
abbrev pub hand_on : ℕ → Item → List Item → Buffer → Buffer
hand_on kept picked rest b =
    if begins_in picked.cluster rest then b
    else if nat_lt 0 kept then record b { items = give_to_kept kept picked b.items }
    else if nat_lt 0 (length rest) then merge_clusters 0 2 b
    else b

-- the glyph at a place goes, its position with it
abbrev pub lose : ℕ → Buffer → Buffer
lose k b = record b { items = remove b.items k; positions = remove b.positions k }

-- the glyph at place `kept`, the first of `rest`, is visited, and then those after it
abbrev pub visit : (Item → Bool) → ℕ → (ℕ → Buffer → Buffer) → Buffer → List Item → Buffer
visit picks kept next b [] = b
visit picks kept next b (x ∷ rest) =
    if picks x then next kept (lose kept (hand_on kept x rest b)) else next (kept + 1) b

-- n glyphs are left to visit, from place `kept` on
unfoldable pub delete_from : (Item → Bool) → ℕ → ℕ → Buffer → Buffer
delete_from picks zero kept b = b
delete_from picks (suc n) kept b = visit picks kept (delete_from picks n) b (drop kept b.items)

-- the buffer without the glyphs that the test picks, from left to right
abbrev pub deleted : (Item → Bool) → Buffer → Buffer
deleted picks b = delete_from picks (length b.items) 0 b
