-- Recomposing preserves the order of clusters, and brings no new one.
use Rattle.std.proofs.Common.{◌≡◌, ℕ, suc, ◌+◌, Bool, List, [], ◌∷◌, ◌++◌, map, length, drop, get_or, Option, Some, refl, sym, ap, ap₂, subst, ◌∙◌, arith, append_assoc, append-nil, drop-cons}
use Rattle.std.proofs.Math.ListN.{get_or-map}
use Rattle.std.proofs.lemmas.List.{map-append, length-map, drop_all}
use Rattle.shape_items.specs.Buffer.{Buffer}
use Rattle.shape_items.specs.Clusters.{clusters}
use Rattle.shape_items.specs.ClusterOrder.{PreservesClusters}
use Rattle.shape_items.specs.Items.{Item}
use Rattle.canonical_form.specs.Recompose.{recomposed_from, recomposed, is_blocked}
use Rattle.shape_items.proofs.Order.DrawsInOrder.{DrawsInOrder, DrawsInOrder-same, DrawsInOrder-then, PreservesClusters-from_draws}
use Rattle.shape_buffer.proofs.Steps.PreservationLemmas.{PreservesClusters-then}
use Rattle.shape_items.proofs.MergingInOrder.EachSpanLemmas.{length-spans_merged_out}
use Rattle.canonical_form.proofs.Recomposing.RecomposeLemmas.{by_steps}
use Rattle.shape_plan.specs.Rules.{Rules}
use Rattle.shape_items.specs.Spans.{spans_merged_out}
use Rattle.shape_normalize.specs.RoundThree.{Placed, placed, ccc_of_placed, is_mark_placed, compose_placed, recomposed_items, absorbed_spans, with_cluster_at, round_three}
use Rattle.shape_normalize.proofs.RoundThree.RoundThreePlaceLemmas.{absorbed_is}
use Rattle.shape_normalize.proofs.RoundThree.ChainedSpanLemmas.{recomposed_spans_preserve}
use Rattle.shape_normalize.proofs.RoundOne.DrawnLemmas.{DrawsBefore-same, draws_without}

-- ---- recomposing, of anything

module _ {A : Type 0} (ccc : A → ℕ) (blocks : List A → A → Bool) (is_mark : A → Bool) (compose : A → A → Option A) where
  -- if what a starter becomes has its number, the numbers are drawn in order
  module _ (number : A → ℕ) (composes : (s c d : A) → compose s c ≡ Some d → number d ≡ number s) where
    recomposed_from_draws : (s : A) (ms rest : List A)
        → DrawsInOrder (number s ∷ map number ms ++ map number rest)
        (map number (recomposed_from ccc blocks is_mark compose s ms rest))
    recomposed_from_draws =
        by_steps ccc blocks is_mark compose (λ s ms rest out.
        DrawsInOrder (number s ∷ map number ms ++ map number rest) (map number out)) (record {
          ends = λ s ms. rw (append-nil (map number ms)) (DrawsInOrder-same (number s ∷ map number ms));
          composes = λ s ms c d rest out found free made later.
              DrawsInOrder-then _ _ _ (draws_without (number s ∷ map number ms) (number c) (map number rest))
              (subst (λ n. DrawsInOrder (n ∷ map number ms ++ map number rest) (map number out)) (composes s c d made) later);
          starts = λ s ms c rest out none start later.
              rw (map-append number ms out) (DrawsBefore-same (number s ∷ map number ms) _ _ later);
          passes = λ s ms c rest out none mark later.
              subst (λ l. DrawsInOrder (number s ∷ l) (map number out))
              (ap (λ l. l ++ map number rest) (map-append number ms (c ∷ []))
              ∙ append_assoc (map number ms) (number c ∷ []) (map number rest)) later;
        })

    pub recomposed_draws : (xs : List A) → DrawsInOrder (map number xs) (map number (recomposed ccc blocks is_mark compose xs))
    recomposed_draws [] = DrawsInOrder-same []
    recomposed_draws (x ∷ xs) = recomposed_from_draws x [] xs

-- ---- the clusters of the items that are emitted

abbrev cluster_at_place : List ℕ → Placed → ℕ
cluster_at_place cs p = get_or cs p.place p.item.cluster

clusters-put_out : (items : List Item) (out : List Placed)
    → clusters (map (with_cluster_at items) out) ≡ map (cluster_at_place (clusters items)) out
clusters-put_out items [] = refl
clusters-put_out items (p ∷ out) =
    ap₂ ◌∷◌ (sym (get_or-map (λ (item : Item). item.cluster) items p.place p.item)) (clusters-put_out items out)

clusters-placed : (cs : List ℕ) (place : ℕ) (items : List Item) → length cs ≡ place + length items
    → map (cluster_at_place cs) (placed place items) ≡ drop place cs
clusters-placed cs place [] as_many = sym (drop_all place cs (omega arith))
clusters-placed cs place (item ∷ items) as_many =
    ap (λ l. get_or cs place item.cluster ∷ l) (clusters-placed cs (suc place) items (omega arith))
    ∙ sym (drop-cons cs place item.cluster (omega arith))

module _ (rules : Rules) where
  put_out_draws : (items merged : List Item) → length merged ≡ length items
      → DrawsInOrder (clusters merged) (clusters (map (with_cluster_at merged) (recomposed_items rules items)))
  put_out_draws items merged as_many =
      let cs = clusters merged in
      let begins : map (cluster_at_place cs) (placed 0 items)
      ≡ cs = clusters-placed cs 0 items (omega (arith, length-map merged (λ (item : Item). item.cluster))) in
      rw (clusters-put_out merged (recomposed_items rules items))
      (subst (λ l. DrawsInOrder l (map (cluster_at_place cs) (recomposed_items rules items))) begins
      (recomposed_draws ccc_of_placed (is_blocked ccc_of_placed) is_mark_placed (compose_placed rules)
      (cluster_at_place cs)
      (λ starter mark made is. ap (cluster_at_place cs) (absorbed_is rules starter mark made is).2) (placed 0 items)))

  -- recomposing preserves the order of clusters, and brings no new one
  pub round_three_preserves : (b : Buffer) → PreservesClusters (clusters b.items) (clusters (round_three rules b).items)
  round_three_preserves b =
      let out = recomposed_items rules b.items in
      let merged = spans_merged_out (absorbed_spans out) b in
      PreservesClusters-then _ _ _
      (recomposed_spans_preserve rules b)
      (PreservesClusters-from_draws _ _ (put_out_draws b.items merged.items (length-spans_merged_out (absorbed_spans out) b)))
