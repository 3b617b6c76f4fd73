-- What calls that merge or mark a span preserve, at once: the order of clusters, flags, and the number of items.
use Rattle.std.proofs.Common.{◌≡◌, ℕ, ◌≤◌, length, refl, ap, ◌∙◌}
use Rattle.shape_items.specs.Buffer.{Buffer}
use Rattle.shape_items.specs.BufferClusters.{unsafe_to_break, unsafe_to_concat, safe_to_insert_tatweel, merge_clusters}
use Rattle.shape_items.specs.PreservesFlags.{PreservesFlags}
use Rattle.shape_items.proofs.Deletion.DeletePreserves.{merged_preserves}
use Rattle.shape_items.proofs.Flags.FlagLemmas.{PreservesFlags-same, PreservesFlags-then, unsafe_to_break_preserves, safe_to_insert_tatweel_preserves}
use Rattle.shape_items.proofs.Merging.KeyLemmas.{length-unsafe_to_break, length-safe_to_insert_tatweel, length-merge_clusters, without_items-merge_clusters}
use Rattle.shape_buffer.specs.Preservation.{PreservesOrder}
use Rattle.shape_buffer.proofs.Steps.PreservationLemmas.{PreservesOrder-same, PreservesOrder-then, order-unsafe_to_break, order-safe_to_insert_tatweel, flags-unsafe_to_concat}
use Rattle.shape_plan.proofs.MaskLemmas.{alone-unsafe_to_concat, order-masks_alone, length-masks}

pub record PreservesAll (before after : Buffer) : Type 0 where
  pub order : PreservesOrder before after
  pub flags : PreservesFlags before after
  pub count : length after.items ≡ length before.items

pub PreservesAll-same : (b : Buffer) → PreservesAll b b
PreservesAll-same b = record { order = PreservesOrder-same b; flags = PreservesFlags-same b; count = refl }

pub PreservesAll-then : (a b c : Buffer) → PreservesAll a b → PreservesAll b c → PreservesAll a c
PreservesAll-then a b c first later = record {
  order = PreservesOrder-then a b c first.order later.order;
  flags = PreservesFlags-then a b c first.flags later.flags;
  count = later.count ∙ first.count;
}

pub all-unsafe_to_break : (start end : ℕ) (b : Buffer) → PreservesAll b (unsafe_to_break start end b)
all-unsafe_to_break start end b = record {
  order = order-unsafe_to_break start end b;
  flags = unsafe_to_break_preserves start end b;
  count = length-unsafe_to_break start end b;
}

pub all-safe_to_insert_tatweel : (start end : ℕ) (b : Buffer) → PreservesAll b (safe_to_insert_tatweel start end b)
all-safe_to_insert_tatweel start end b = record {
  order = order-safe_to_insert_tatweel start end b;
  flags = safe_to_insert_tatweel_preserves start end b;
  count = length-safe_to_insert_tatweel start end b;
}

pub all-unsafe_to_concat : (start end : ℕ) (b : Buffer) → start ≤ end → PreservesAll b (unsafe_to_concat start end b)
all-unsafe_to_concat start end b le =
    let alone = alone-unsafe_to_concat start end b le in
    record { order = order-masks_alone b _ alone; flags = flags-unsafe_to_concat start end b; count = length-masks alone }

pub all-merge_clusters : (start end : ℕ) (b : Buffer) → end ≤ length b.items → PreservesAll b (merge_clusters start end b)
all-merge_clusters start end b within =
    let kept = merged_preserves start end b (merge_clusters start end b) within refl in
    let rest = without_items-merge_clusters start end b in
    record {
      order = record {
        clusters = kept.0;
        direction = ap (λ (c : Buffer). c.direction) rest;
        flags = ap (λ (c : Buffer). c.flags) rest;
        level = ap (λ (c : Buffer). c.cluster_level) rest;
      };
      flags = kept.1;
      count = length-merge_clusters start end b;
    }
