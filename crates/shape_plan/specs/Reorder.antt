-- What `reorder_marks` is handed, and what it may do.
use Rattle.std.specs.Prelude.{◌≡◌, ℕ, ◌-◌, ◌<◌, ◌≤◌, List, length, get_or, set, slice_range}
use Rattle.std.specs.List.{All, swap}
use Rattle.std.specs.List.Sorted.{IsNonDecreasingBy}
use Rattle.shape_items.specs.Buffer.{Buffer}
use Rattle.shape_items.specs.BufferClusters.{merge_clusters}
use Rattle.shape_items.specs.Items.{Item, ccc_of_item}

-- the longest run of marks that is put in order
abbrev pub max_run : ℕ
max_run = 32

-- the items from place `start` up to `end` are a run in order: not empty, at most 32 of them, of nonzero ccc that never
-- fall
pub record IsRunInOrder (items : List Item) (start end : ℕ) : Type 0 where
  pub some : start < end
  pub within : end ≤ length items
  pub short : end - start ≤ max_run
  pub marks : All (λ item. 0 < ccc_of_item item) (slice_range items start end)
  pub in_order : IsNonDecreasingBy ccc_of_item (slice_range items start end)

-- the items at two places exchanged
abbrev pub exchanged : ℕ → ℕ → Buffer → Buffer
exchanged i j b = record b { items = swap b.items i j }

-- an item of another ccc
abbrev pub with_ccc : ℕ → Item → Item
with_ccc ccc item = record item { properties = record item.properties { modified_ccc = ccc } }

-- the item at a place with another ccc
abbrev pub ccc_set : ℕ → Item → ℕ → Buffer → Buffer
ccc_set i item ccc b = record b { items = set b.items i (with_ccc ccc item) }

-- the items from place `start` up to `end` in another order: finitely many steps lead there, each of which exchanges
-- two of them, merges the clusters of a span within the range, whose growth may reach items outside it, or gives one of
-- them another nonzero ccc
pub data Reorders (start end : ℕ) : Buffer → Buffer → Type 0 where
  done : {b : Buffer} → Reorders start end b b
  exchange : {b c : Buffer} (i j : ℕ) → start ≤ i → i < end → start ≤ j → j < end → Reorders start end (exchanged i j b) c
      → Reorders start end b c
  merge : {b c : Buffer} (from to : ℕ) → start ≤ from → from ≤ to → to ≤ end → Reorders start end (merge_clusters from to b) c
      → Reorders start end b c
  set_ccc : {b c : Buffer} (i : ℕ) (item : Item) (ccc : ℕ) → start ≤ i → i < end → item ≡ get_or b.items i item → 0 < ccc → ccc < 256
      → Reorders start end (ccc_set i item ccc b) c → Reorders start end b c

-- each run in order is put in another order
pub record ReordersRanges (reordered : Buffer → ℕ → ℕ → Buffer) : Type 0 where
  pub reorders : (b : Buffer) (start end : ℕ) → IsRunInOrder b.items start end → Reorders start end b (reordered b start end)
