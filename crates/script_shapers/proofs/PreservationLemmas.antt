-- What hooks that merge, mark and put in a new list preserve.
use Rattle.std.proofs.Common.{◌≡◌, ℕ, ◌≤◌, Bool, true, false, cond, List, [], ◌∷◌, Option, None, Some, length, refl, ap, ◌∙◌, inl}
use Rattle.std.proofs.lemmas.Bool.{or_right}
use Rattle.std.specs.List.{find}
use Rattle.shape_items.specs.Buffer.{Buffer}
use Rattle.shape_items.specs.BufferClusters.{merge_clusters, merge_out_clusters, unsafe_to_break}
use Rattle.shape_items.specs.Clusters.{clusters}
use Rattle.shape_items.specs.Items.{Item}
use Rattle.shape_items.specs.PreservesFlags.{PreservesFlags, has_flag, some_has}
use Rattle.shape_items.proofs.Deletion.DeletePreserves.{merged_preserves, merged_out_preserves}
use Rattle.shape_items.proofs.Flags.FlagLemmas.{PreservesFlags-same, PreservesFlags-then, unsafe_to_break_preserves}
use Rattle.shape_items.proofs.Merging.ClusterLemmas.{merge_out-cases}
use Rattle.shape_items.proofs.Merging.KeyLemmas.{length-merge_out, length-merge_clusters, length-unsafe_to_break, without_items, without_items-merge_clusters}
use Rattle.shape_items.proofs.Order.DrawsInOrder.{DrawsInOrder, PreservesClusters-from_draws}
use Rattle.shape_buffer.specs.Preservation.{PreservesOrder}
use Rattle.shape_buffer.proofs.Steps.PreservationLemmas.{PreservesOrder-same, PreservesOrder-then, order-unsafe_to_break}
use Rattle.script_shapers.proofs.ReplaceLemmas.{with_items}

-- order, flags and the number of items are kept
pub record PreservesAll (b c : Buffer) : Type 0 where
  pub order : PreservesOrder b c
  pub flags : PreservesFlags b c
  pub count : length c.items ≡ length b.items

pub PreservesAll-same : (b : Buffer) → PreservesAll b b
PreservesAll-same b = record { order = PreservesOrder-same b; flags = PreservesFlags-same b; count = refl }

pub PreservesAll-then : (a b c : Buffer) → PreservesAll a b → PreservesAll b c → PreservesAll a c
PreservesAll-then a b c first later = record {
  order = PreservesOrder-then a b c first.order later.order;
  flags = PreservesFlags-then a b c first.flags later.flags;
  count = later.count ∙ first.count;
}

without_items-merge_out : (start end : ℕ) (b : Buffer) → without_items (merge_out_clusters start end b) ≡ without_items b
without_items-merge_out start end b = merge_out-cases (λ c. without_items c ≡ without_items b) start end b refl refl

pub PreservesAll-merge_out : (start end : ℕ) (b : Buffer) → end ≤ length b.items → PreservesAll b (merge_out_clusters start end b)
PreservesAll-merge_out start end b within =
    let rest = without_items-merge_out start end b in
    let preserves = merged_out_preserves start end b (merge_out_clusters start end b) within refl in
    record {
      order = record {
        clusters = preserves.0;
        direction = ap (λ (c : Buffer). c.direction) rest;
        flags = ap (λ (c : Buffer). c.flags) rest;
        level = ap (λ (c : Buffer). c.cluster_level) rest;
      };
      flags = preserves.1;
      count = length-merge_out start end b;
    }

pub PreservesAll-merge : (start end : ℕ) (b : Buffer) → end ≤ length b.items → PreservesAll b (merge_clusters start end b)
PreservesAll-merge start end b within =
    let rest = without_items-merge_clusters start end b in
    let preserves = merged_preserves start end b (merge_clusters start end b) within refl in
    record {
      order = record {
        clusters = preserves.0;
        direction = ap (λ (c : Buffer). c.direction) rest;
        flags = ap (λ (c : Buffer). c.flags) rest;
        level = ap (λ (c : Buffer). c.cluster_level) rest;
      };
      flags = preserves.1;
      count = length-merge_clusters start end b;
    }

pub PreservesAll-unsafe_to_break : (start end : ℕ) (b : Buffer) → PreservesAll b (unsafe_to_break start end b)
PreservesAll-unsafe_to_break start end b = record {
  order = order-unsafe_to_break start end b;
  flags = unsafe_to_break_preserves start end b;
  count = length-unsafe_to_break start end b;
}

-- ---- a new list

pub order-replaced : (b : Buffer) (items : List Item) → DrawsInOrder (clusters b.items) (clusters items) → PreservesOrder b (with_items items b)
order-replaced b items draws = record {
  clusters = PreservesClusters-from_draws (clusters b.items) (clusters items) draws;
  direction = refl;
  flags = refl;
  level = refl;
}

-- a flag of the list is one of another list
abbrev pub BringsNone : List Item → List Item → Type 0
BringsNone xs ys = (flag : ℕ) → some_has flag ys ≡ true → some_has flag xs ≡ true

pub flags-replaced : (b : Buffer) (items : List Item) → BringsNone b.items items → PreservesFlags b (with_items items b)
flags-replaced b items none = record {
  flags = refl;
  stays_set = λ e. e;
  none_new = λ flag d some. inl (none flag some);
}

-- a found item is one of the list
abbrev pub found_has : ℕ → Option Item → Bool
found_has flag None = false
found_has flag (Some item) = has_flag flag item

pub found-in : (test : Item → Bool) (flag : ℕ) (xs : List Item) → found_has flag (find test xs) ≡ true → some_has flag xs ≡ true
found-in test flag [] = λ e. cc
found-in test flag (x ∷ xs) =
    elim (test x) as (λ t. found_has flag (cond t (Some x) (find test xs)) ≡ true → some_has flag (x ∷ xs) ≡ true) [
      | true ↦ λ e. rw e refl
      | false ↦ λ e. or_right (has_flag flag x) (some_has flag xs) (found-in test flag xs e)
    ]
