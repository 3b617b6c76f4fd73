-- The hook that reorders modifier marks preserves clusters at the monotone levels: what it moves shares a cluster by then.
use Rattle.std.proofs.Common.{◌≡◌, ◌==◌, ℕ, zero, suc, ◌+◌, ◌<◌, ◌≤◌, true, false, List, length, get_or, slice_range, refl, sym, ap, ◌∙◌, arith, subst, cond}
use Rattle.std.proofs.lemmas.List.Edits.{length-swap}
use Rattle.std.proofs.Math.Seq.{map-set_same}
use Rattle.std.specs.List.{swap}
use Rattle.shape_items.specs.Buffer.{Buffer}
use Rattle.shape_items.specs.BufferClusters.{merge_clusters}
use Rattle.shape_items.specs.Clusters.{clusters, merge}
use Rattle.shape_items.specs.ClusterOrder.{PreservesClusters, IsMonotoneLevel}
use Rattle.shape_items.specs.Items.{new_item}
use Rattle.shape_items.proofs.Merging.ClusterLemmas.{merge_clusters-monotone}
use Rattle.shape_items.proofs.Merging.JoinLemmas.{merge_joins}
use Rattle.shape_items.proofs.Merging.KeyLemmas.{length-merge_clusters}
use Rattle.shape_items.proofs.Deletion.DeletePreserves.{merged_preserves}
use Rattle.shape_buffer.proofs.Steps.PreservationLemmas.{PreservesClusters-same, PreservesClusters-then}
use Rattle.shape_plan.specs.Reorder.{exchanged}
use Rattle.script_shapers.proofs.HookLemmas.{PreservesRuns, clusters_swapped}
use Rattle.script_shapers.specs.Modifiers.{count_below, count_modifiers, stepped_before, reclassed, brought_before, modifiers_moved, modifiers_reordered, length-stepped_before, length-reclassed, length-modifiers_moved, counts_within}

-- neighbours between two places share a cluster
abbrev AreJoined : (from to : ℕ) → List ℕ → Type 0
AreJoined from to cs = (k : ℕ) → from ≤ k → k + 1 < to → get_or cs k 0 ≡ get_or cs (k + 1) 0

stepped_before-clusters : (from to place n : ℕ) (b : Buffer) → from ≤ place → place + n < to → to ≤ length b.items
    → AreJoined from to (clusters b.items) → clusters (stepped_before place n b).items ≡ clusters b.items
stepped_before-clusters from to place zero b low high within joined = refl
stepped_before-clusters from to place (suc n) b low high within joined =
    let i = place + n in
    let j = place + suc n in
    let next : i + 1 ≡ j = omega arith in
    let shared = joined i (omega (arith, low)) (omega (arith, high)) ∙ ap (λ k. get_or (clusters b.items) k 0) next in
    let same : clusters (swap b.items i j) ≡ clusters b.items = clusters_swapped b.items i j (omega (arith, high, within))
    (omega (arith, high, within)) (λ e. absurd (omega (arith, e))) shared in
    stepped_before-clusters from to place n (exchanged i j b) low (omega (arith, high))
    (omega (arith, within, length-swap b.items i j)) (subst (AreJoined from to) (sym same) joined) ∙ same

reclassed-clusters : (ccc place : ℕ) (b : Buffer) → clusters (reclassed ccc place b).items ≡ clusters b.items
reclassed-clusters ccc place b = map-set_same (λ x. x.cluster) b.items place _ (new_item 0 0) refl

brought_before-clusters : (from to ccc count n place : ℕ) (b : Buffer) → from ≤ place → place + n + count ≤ to → to ≤ length b.items
    → AreJoined from to (clusters b.items) → clusters (brought_before ccc count n place b).items ≡ clusters b.items
brought_before-clusters from to ccc zero n place b low high within joined = refl
brought_before-clusters from to ccc (suc count) n place b low high within joined =
    let stepped = stepped_before place n b in
    let put = reclassed ccc place stepped in
    let same : clusters put.items ≡ clusters b.items = reclassed-clusters ccc place stepped
    ∙ stepped_before-clusters from to place n b low (omega (arith, high)) within joined in
    let kept : length put.items ≡ length b.items = length-reclassed ccc place stepped ∙ length-stepped_before place n b in
    brought_before-clusters from to ccc count n (place + 1) put (omega (arith, low)) (omega (arith, high)) (omega (arith, within, kept))
    (subst (AreJoined from to) (sym same) joined) ∙ same

stepped_before-level : (place n : ℕ) (b : Buffer) → (stepped_before place n b).cluster_level ≡ b.cluster_level
stepped_before-level place zero b = refl
stepped_before-level place (suc n) b = stepped_before-level place n (exchanged (place + n) (place + suc n) b)

brought_before-level : (ccc count n place : ℕ) (b : Buffer) → (brought_before ccc count n place b).cluster_level ≡ b.cluster_level
brought_before-level ccc zero n place b = refl
brought_before-level ccc (suc count) n place b =
    brought_before-level ccc count n (place + 1) (reclassed ccc place (stepped_before place n b)) ∙ stepped_before-level place n b

-- the clusters stay in order, and the level stays
modifiers_moved-preserves : (ccc other : ℕ) (b : Buffer) (start end : ℕ) → IsMonotoneLevel b.cluster_level → start ≤ end
    → end ≤ length b.items
    → PreservesClusters (clusters b.items) (clusters (modifiers_moved ccc other b start end).items)
    × ((modifiers_moved ccc other b start end).cluster_level ≡ b.cluster_level)
modifiers_moved-preserves ccc other b start end monotone ordered within =
    let run = slice_range b.items start end in
    let n = count_below ccc run in
    let count = count_modifiers ccc run in
    let to = start + n + count in
    let merged = merge_clusters start to b in
    let inside : to ≤ end = counts_within ccc b.items start end ordered within in
    let is = merge_clusters-monotone start to b monotone in
    let are : merged.items ≡ merge start to b.items = ap (λ m. m.items) is in
    let kept : length merged.items ≡ length b.items = length-merge_clusters start to b in
    let joined : AreJoined start to (clusters merged.items) = subst (AreJoined start to) (sym (ap clusters are))
    (λ k low high. merge_joins start to b.items k low high (omega (arith, inside, within))) in
    let stays : clusters (brought_before other count n start merged).items
    ≡ clusters merged.items = brought_before-clusters start to other count n start merged (omega arith) (omega arith)
    (omega (arith, kept, inside, within)) joined in
    let merging = (merged_preserves start to b merged (omega (arith, inside, within)) refl).0 in
    elim (count == 0) as (λ t. PreservesClusters (clusters b.items) (clusters (cond t b (brought_before other count n start merged)).items)
    × ((cond t b (brought_before other count n start merged)).cluster_level ≡ b.cluster_level)) [
      | true ↦ (PreservesClusters-same (clusters b.items), refl)
      | false ↦ (
        subst (PreservesClusters (clusters b.items)) (sym stays) merging,
        brought_before-level other count n start merged ∙ ap (λ m. m.cluster_level) is,
      )
    ]

pub modifiers_preserve_runs : PreservesRuns modifiers_reordered
modifiers_preserve_runs = λ b start end monotone run.
    let ordered : start ≤ end = (let some = run.some in omega arith) in
    let below = modifiers_moved 220 25 b start end in
    let count = count_modifiers 220 (slice_range b.items start end) in
    let inside = counts_within 220 b.items start end ordered run.within in
    let kept : length below.items ≡ length b.items = length-modifiers_moved 220 25 b start end in
    let first = modifiers_moved-preserves 220 25 b start end monotone ordered run.within in
    let within : end ≤ length below.items = (let long = run.within in omega (arith, kept, long)) in
    let second = modifiers_moved-preserves 230 26 below (start + count) end (subst IsMonotoneLevel (sym first.1) monotone)
    (omega (arith, inside)) within in
    PreservesClusters-then (clusters b.items) (clusters below.items) _ first.0 second.0
