-- The hook that reorders points preserves clusters at the monotone levels: what it exchanges shares a cluster by then.
use Rattle.std.proofs.Common.{◌≡◌, ℕ, ◌+◌, ◌-◌, ◌<◌, ◌≤◌, length, slice_range, Option, Some, None, refl, sym, ap, ◌∙◌, arith, subst}
use Rattle.std.specs.List.{swap}
use Rattle.std.specs.Option.{option_map_or}
use Rattle.shape_items.specs.Buffer.{Buffer}
use Rattle.shape_items.specs.BufferClusters.{merge_clusters}
use Rattle.shape_items.specs.Clusters.{clusters, merge}
use Rattle.shape_items.specs.ClusterOrder.{PreservesClusters, IsMonotoneLevel}
use Rattle.shape_items.proofs.Merging.ClusterLemmas.{merge_clusters-monotone}
use Rattle.shape_items.proofs.Deletion.DeletePreserves.{merged_preserves}
use Rattle.shape_items.proofs.Merging.JoinLemmas.{cluster_at, merge_joins}
use Rattle.shape_items.proofs.Merging.KeyLemmas.{length-merge}
use Rattle.shape_buffer.proofs.Steps.PreservationLemmas.{PreservesClusters-same}
use Rattle.script_shapers.proofs.HookLemmas.{PreservesRuns, clusters_swapped}
use Rattle.script_shapers.specs.HebrewPoints.{third_place, step_before, points_reordered, place_in_range}

step_preserves : (third : ℕ) (b : Buffer) → IsMonotoneLevel b.cluster_level → 1 ≤ third → third < length b.items
    → PreservesClusters (clusters b.items) (clusters (step_before third b).items)
step_preserves third b monotone past within =
    let merged = merge_clusters (third - 1) (third + 1) b in
    let are : merged.items
    ≡ merge (third - 1) (third + 1) b.items = ap (λ m. m.items) (merge_clusters-monotone (third - 1) (third + 1) b monotone) in
    let long : length merged.items ≡ length b.items = ap length are ∙ length-merge (third - 1) (third + 1) b.items in
    let next : third - 1 + 1 ≡ third = omega (arith, past) in
    let joined = merge_joins (third - 1) (third + 1) b.items (third - 1) (omega arith) (omega (arith, past)) (omega (arith, within)) in
    let joined_here : cluster_at merged.items (third - 1) ≡ cluster_at merged.items third = ap (λ xs. cluster_at xs (third - 1)) are
    ∙ joined ∙ ap (λ xs. cluster_at xs (third - 1 + 1)) (sym are) ∙ ap (cluster_at merged.items) next in
    let kept = (merged_preserves (third - 1) (third + 1) b merged (omega (arith, within)) refl).0 in
    let stays : clusters (swap merged.items (third - 1) third)
    ≡ clusters merged.items = clusters_swapped merged.items (third - 1) third (omega (arith, long, within))
    (omega (arith, long, within)) (λ e. absurd (omega (arith, past, e))) joined_here in
    subst (PreservesClusters (clusters b.items)) (sym stays) kept

pub points_reordered-preserves : (b : Buffer) (start end : ℕ) → IsMonotoneLevel b.cluster_level → start ≤ end → end ≤ length b.items
    → PreservesClusters (clusters b.items) (clusters (points_reordered b start end).items)
points_reordered-preserves b start end monotone ordered within =
    let run = slice_range b.items start end in
    let P : Option ℕ → Type 0 = λ v. third_place 0 0 0 run ≡ v
    → PreservesClusters (clusters b.items) (clusters (option_map_or (λ place. step_before (start + place) b) v b).items) in
    let cases : P (third_place 0 0 0 run) = elim (third_place 0 0 0 run) as P [
      | None ↦ λ e. PreservesClusters-same (clusters b.items)
      | Some place ↦ λ e.
          let at = place_in_range b.items start end place ordered within e in
          step_preserves (start + place) b monotone (omega (arith, at.0)) (omega (arith, at.1, within))
    ] in
    cases refl

pub points_preserve_runs : PreservesRuns points_reordered
points_preserve_runs = λ b start end monotone run. points_reordered-preserves b start end monotone (let some = run.some in omega arith) run.within
