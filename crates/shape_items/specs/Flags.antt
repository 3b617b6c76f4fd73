-- The flags of glyphs at the end of a run: one set for each cluster.
use Rattle.std.specs.Prelude.{◌≡◌, ◌==◌, ℕ, ◌<◌, List, [], ◌∷◌, length, map, fold, take, slice_index_or, Option, Some, None, if◌then◌else◌}
use Rattle.std.specs.Int.RustNames.{bit_and, bit_or}
use Rattle.std.specs.List.{flat_map, prefix_len}
use Rattle.shape_items.specs.Buffer.{Buffer}
use Rattle.canonical_form.specs.Divided.{divided_between}
use Rattle.shape_items.specs.Items.{Item, has_cluster}
use Rattle.shape_items.specs.PreservesFlags.{has_glyph_flags}
use Rattle.shape_common.specs.declared.flags.BufferFlags.{BufferFlags}
use Rattle.shape_common.specs.FlagNames.{UNSAFE_TO_BREAK, SAFE_TO_INSERT_TATWEEL, UNSAFE, NOT_FOR_CONCAT, DEFINED, PRODUCE_UNSAFE_TO_CONCAT}
use Rattle.shape_common.specs.FlagNames.{PRODUCE_SAFE_TO_INSERT_TATWEEL}

-- the defined flags of an item
abbrev pub flags_of : Item → ℕ
flags_of item = bit_and item.mask DEFINED

-- the defined flags of some items, united
abbrev pub united_flags : List Item → ℕ
united_flags items = fold (λ united item. bit_or united (flags_of item)) 0 items

-- if tatweel is asked for: unsafe to break clears safe to insert tatweel, and one that is left brings both unsafe flags
abbrev pub with_tatweel : BufferFlags → ℕ → ℕ
with_tatweel flags united =
    if bit_and flags.0 PRODUCE_SAFE_TO_INSERT_TATWEEL == PRODUCE_SAFE_TO_INSERT_TATWEEL then
    (if bit_and united UNSAFE_TO_BREAK == UNSAFE_TO_BREAK then bit_and united UNSAFE
    else if bit_and united SAFE_TO_INSERT_TATWEEL == SAFE_TO_INSERT_TATWEEL then bit_or united UNSAFE
    else united)
    else united

-- unsafe to concat stands only if it is asked for
abbrev pub handed_flags : BufferFlags → ℕ → ℕ
handed_flags flags united =
    let tatweel = with_tatweel flags united in
    if bit_and flags.0 PRODUCE_UNSAFE_TO_CONCAT == PRODUCE_UNSAFE_TO_CONCAT then tatweel else bit_and tatweel NOT_FOR_CONCAT

-- the runs of one cluster: the longest spans of items that share their cluster
abbrev pub cluster_runs : List Item → List (List Item)
cluster_runs items = divided_between (λ item next. has_cluster item.cluster next) items

abbrev pub with_mask : ℕ → Item → Item
with_mask mask item = record item { mask = mask }

-- a run of one cluster, each item with the flags of all
abbrev pub run_flagged : BufferFlags → List Item → List Item
run_flagged flags run = map (with_mask (handed_flags flags (united_flags run))) run

-- if the run has seen flags (HAS_GLYPH_FLAGS), each cluster gets one set of them
unfoldable pub flags_propagated : Buffer → Buffer
flags_propagated b =
    if has_glyph_flags b then record b { items = flat_map (run_flagged b.flags) (cluster_runs b.items) } else b

-- neighbours in one cluster have the same defined flags
abbrev pub HasOneSetOfFlags : List Item → Type 0
HasOneSetOfFlags [] = Unit {0}
HasOneSetOfFlags (item ∷ []) = Unit {0}
HasOneSetOfFlags (item ∷ next ∷ items) = (item.cluster ≡ next.cluster → flags_of item ≡ flags_of next) × HasOneSetOfFlags (next ∷ items)

-- any two items of one cluster have the same defined flags, wherever they stand
abbrev pub ClustersHaveOneSetOfFlags : List Item → Type 0
ClustersHaveOneSetOfFlags items = (i j : ℕ) (d : Item) → i < length items → j < length items
    → (slice_index_or items i d).cluster ≡ (slice_index_or items j d).cluster
    → flags_of (slice_index_or items i d) ≡ flags_of (slice_index_or items j d)

-- ---- the walk of the code, which keeps the cluster of the item before and the mask that it got

-- the united flags of the items at the start of a list that are in one cluster
abbrev pub first_united : ℕ → List Item → ℕ
first_united cluster items = united_flags (take (prefix_len (has_cluster cluster) items) items)

-- the mask of the first of some items, after one in this cluster with this mask
abbrev pub mask_after : BufferFlags → Option (ℕ × ℕ) → Item → List Item → ℕ
mask_after flags None item items = handed_flags flags (first_united item.cluster items)
mask_after flags (Some before) item items =
    if has_cluster before.0 item then before.1 else handed_flags flags (first_united item.cluster items)

unfoldable pub flagged_from : BufferFlags → Option (ℕ × ℕ) → List Item → List Item
flagged_from flags before [] = []
flagged_from flags before (item ∷ items) =
    let mask = mask_after flags before item (item ∷ items) in
    with_mask mask item ∷ flagged_from flags (Some (item.cluster, mask)) items
