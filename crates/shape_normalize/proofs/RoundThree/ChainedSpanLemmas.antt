-- The spans that the walk of the code keeps: they are in order, and merged they do what the spans from each starter do.
use Rattle.std.proofs.Common.{◌≡◌, ℕ, suc, ◌+◌, ◌-◌, ◌<◌, ◌≤◌, List, [], ◌∷◌, ◌++◌, length, map, Some, refl, sym, ap, subst, ◌∙◌, arith, append-nil}
use Rattle.std.specs.List.{AllByRecursion}
use Rattle.std.proofs.lemmas.List.Sums.{fold-append}
use Rattle.shape_items.specs.Buffer.{Buffer}
use Rattle.shape_items.specs.Clusters.{clusters, merge}
use Rattle.shape_items.specs.ClusterOrder.{PreservesClusters}
use Rattle.shape_items.specs.Items.{Item}
use Rattle.shape_items.specs.Spans.{AreSpansInOrder, merge_each, spans_merged_out}
use Rattle.canonical_form.specs.Recompose.{is_blocked}
use Rattle.canonical_form.proofs.Lists.EveryLemmas.{push_all}
use Rattle.canonical_form.proofs.Recomposing.RecomposeLemmas.{by_steps}
use Rattle.shape_items.proofs.Merging.KeyLemmas.{length-merge}
use Rattle.shape_items.proofs.Merging.JoinLemmas.{Joined as SharesCluster, merge_joins}
use Rattle.shape_items.proofs.Merging.NestedMergeLemmas.{merge-from_later}
use Rattle.shape_items.proofs.MergingInOrder.EachSpanLemmas.{AreSpansInOrder-lower, length-merge_each, spans_merged_out-equal, spans_merged_out_preserve}
use Rattle.shape_normalize.specs.RoundThree.{Absorbed, Placed, placed, ccc_of_placed, is_mark_placed, compose_placed, recomposed_items, absorbed_spans, spans_between, chained_spans}
use Rattle.shape_plan.specs.Rules.{Rules}
use Rattle.shape_normalize.proofs.RoundThree.RoundThreePlaceLemmas.{AreAbsorbedInOrder, InOrder, AreFrom, AreFrom-placed, in_order-higher, in_order-push, absorbed_is, recomposed_placed}
use Rattle.shape_normalize.proofs.RoundThree.RoundThreeWalkLemmas.{after, item_at}

-- ---- the spans are in order

-- the spans of one starter, and then those that begin after its marks
chained_then : (from k n : ℕ) (absorbed : List Absorbed) (spans : List (ℕ × ℕ)) → from ≤ k → k ≤ n → AreAbsorbedInOrder from k absorbed
    → AreSpansInOrder k n spans → AreSpansInOrder from n (spans_between from absorbed ++ spans)
chained_then from k n [] spans le within h later = AreSpansInOrder-lower from k n spans le later
chained_then from k n (mark ∷ absorbed) spans le within h later =
    let behind = chained_then mark.place k n absorbed spans (omega (arith, h.1)) within h.2 later in (
      omega arith,
      omega (arith, h.0),
      omega (arith, h.1),
      AreSpansInOrder-lower from mark.place n (spans_between mark.place absorbed ++ spans) (omega (arith, h.0)) behind,
    )

-- nothing was composed with these
abbrev pub AreUnabsorbed : List Placed → Type 0
AreUnabsorbed ms = AllByRecursion (λ (m : Placed). m.absorbed ≡ []) ms

pub chained-unabsorbed : (ms out : List Placed) → AreUnabsorbed ms → chained_spans (ms ++ out) ≡ chained_spans out
chained-unabsorbed [] out none = refl
chained-unabsorbed (m ∷ ms) out none =
    ap (λ absorbed. spans_between m.place absorbed ++ chained_spans (ms ++ out)) none.0 ∙ chained-unabsorbed ms out none.1

pub AreFrom-fit : (n k : ℕ) (rest : List Placed) → AreFrom n k rest → k ≤ n
AreFrom-fit n k [] from = omega arith
AreFrom-fit n k (p ∷ ps) from = let later = AreFrom-fit n (suc k) ps from.2 in omega arith

-- those of a starter and of what comes after it, once all of that is emitted
abbrev IsChained : ℕ → Placed → List Placed → List Placed → List Placed → Type 0
IsChained n s ms rest out =
    (k : ℕ) → s.place < k → AreAbsorbedInOrder s.place k s.absorbed → AreUnabsorbed ms → AreFrom n k rest
    → AreSpansInOrder s.place n (chained_spans out)

module _ (rules : Rules) (n : ℕ) where
  chained_ends : (s : Placed) (ms : List Placed) → IsChained n s ms [] (s ∷ ms)
  chained_ends s ms k behind absorbed none from =
      let unabsorbed : chained_spans ms ≡ [] = ap chained_spans (sym (append-nil ms)) ∙ chained-unabsorbed ms [] none in
      subst (λ spans. AreSpansInOrder s.place n (spans_between s.place s.absorbed ++ spans)) (sym unabsorbed)
      (chained_then s.place k n s.absorbed [] (omega arith) (omega arith) absorbed tt)

  chained_absorbs : (s mark d : Placed) (ms rest out : List Placed) → compose_placed rules s mark ≡ Some d → IsChained n d ms rest out
      → IsChained n s ms (mark ∷ rest) out
  chained_absorbs s mark d ms rest out composes later k behind absorbed none from =
      let made = absorbed_is rules s mark d composes in
      let place : d.place ≡ s.place = ap (λ (p : Placed). p.place) made.2 in
      let more : AreAbsorbedInOrder d.place (suc k) d.absorbed =
      subst (λ p. AreAbsorbedInOrder p.place (suc k) p.absorbed) (sym made.2)
      (in_order-push s.place k s.absorbed (record { place = mark.place; char = made.0 }) behind from.0 absorbed) in
      subst (λ low. AreSpansInOrder low n (chained_spans out)) place (later (suc k) (omega arith) more none from.2)

  chained_starts : (s c : Placed) (ms rest out : List Placed) → IsChained n c [] rest out → IsChained n s ms (c ∷ rest) (s ∷ ms ++ out)
  chained_starts s c ms rest out later k behind absorbed none from =
      let fresh : AreAbsorbedInOrder c.place (suc k) c.absorbed = subst (AreAbsorbedInOrder c.place (suc k)) (sym from.1) tt in
      let others = subst (λ low. AreSpansInOrder low n (chained_spans out)) from.0 (later (suc k) (omega (arith, from.0)) fresh tt from.2) in
      let fit = AreFrom-fit n (suc k) rest from.2 in
      subst (λ spans. AreSpansInOrder s.place n (spans_between s.place s.absorbed ++ spans)) (sym (chained-unabsorbed ms out none))
      (chained_then s.place k n s.absorbed (chained_spans out) (omega arith) (omega arith) absorbed others)

  chained_after : (s : Placed) (ms rest : List Placed) → IsChained n s ms rest (after rules s ms rest)
  chained_after =
      by_steps ccc_of_placed (is_blocked ccc_of_placed) is_mark_placed (compose_placed rules) (IsChained n) (record {
        ends = chained_ends;
        composes = λ s ms c d rest out found free made later. chained_absorbs s c d ms rest out made later;
        starts = λ s ms c rest out none start later. chained_starts s c ms rest out later;
        passes = λ s ms c rest out none mark later k behind absorbed unabsorbed from.
            later (suc k) (omega arith) (in_order-higher s.place k (suc k) s.absorbed (omega arith) absorbed)
            (push_all (λ (m : Placed). m.absorbed ≡ []) ms c unabsorbed from.1) from.2;
      })

pub chained_in_order : (rules : Rules) (items : List Item) → AreSpansInOrder 0 (length items) (chained_spans (recomposed_items rules items))
chained_in_order rules [] = tt
chained_in_order rules (x ∷ items) =
    chained_after rules (suc (length items)) (item_at rules 0 x) [] (placed 1 items) 1 (omega arith) tt tt
    (AreFrom-placed (suc (length items)) 1 items (omega arith))

-- ---- merging them

-- the spans of one starter from `from` on, if the items from `place` up to it share their cluster
one_chained : (place from : ℕ) (absorbed : List Absorbed) (xs : List Item) → place ≤ from → AreAbsorbedInOrder from (length xs) absorbed
    → ((k : ℕ) → place ≤ k → k < from → SharesCluster xs k)
    → merge_each (map (λ (mark : Absorbed). (place, mark.place + 1)) absorbed) xs ≡ merge_each (spans_between from absorbed) xs
one_chained place from [] xs le h shares = refl
one_chained place from (mark ∷ absorbed) xs le h shares =
    let sum : place + (from - place) ≡ from = omega arith in
    let end = mark.place + 1 in
    let below : from < mark.place = h.0 in
    let within : end ≤ length xs = omega (arith, h.1) in
    let merged = merge place end xs in
    let same : merged ≡ merge from end xs =
    merge-from_later place (from - place) end xs (omega arith) within (λ k ge lt. shares k ge (omega arith))
    ∙ ap (λ s. merge s end xs) sum in
    one_chained place mark.place absorbed merged (omega arith) (rw (length-merge place end xs) h.2)
    (λ k ge lt. merge_joins place end xs k ge (omega arith) within)
    ∙ ap (merge_each (spans_between mark.place absorbed)) same

-- one starter after the other
all_chained : (n : ℕ) (out : List Placed) (xs : List Item) → length xs ≡ n → AllByRecursion (InOrder n) out
    → merge_each (absorbed_spans out) xs ≡ merge_each (chained_spans out) xs
all_chained n [] xs is h = refl
all_chained n (p ∷ out) xs is h =
    let first = one_chained p.place p.place p.absorbed xs (omega arith) (rw is h.0) (λ k ge lt. absurd (omega arith)) in
    let step = λ (xs : List Item) (span : ℕ × ℕ). merge span.0 span.1 xs in
    let from_starter = map (λ (mark : Absorbed). (p.place, mark.place + 1)) p.absorbed in
    let chain = spans_between p.place p.absorbed in
    fold-append step xs from_starter (absorbed_spans out)
    ∙ ap (merge_each (absorbed_spans out)) first
    ∙ all_chained n out (merge_each chain xs) (length-merge_each chain xs ∙ is) h.1
    ∙ sym (fold-append step xs chain (chained_spans out))

-- the spans of the code do what those of the round do
pub chained_merged : (rules : Rules) (b : Buffer)
    → spans_merged_out (chained_spans (recomposed_items rules b.items)) b
    ≡ spans_merged_out (absorbed_spans (recomposed_items rules b.items)) b
chained_merged rules b =
    let out = recomposed_items rules b.items in
    spans_merged_out-equal (chained_spans out) (absorbed_spans out) b
    (sym (all_chained (length b.items) out b.items refl (recomposed_placed rules b.items).in_order))

-- merging them preserves the order of clusters, and brings no new one
pub recomposed_spans_preserve : (rules : Rules) (b : Buffer)
    → PreservesClusters (clusters b.items) (clusters (spans_merged_out (absorbed_spans (recomposed_items rules b.items)) b).items)
recomposed_spans_preserve rules b =
    (spans_merged_out_preserve 0 (chained_spans (recomposed_items rules b.items)) b _ (chained_in_order rules b.items)
    (sym (chained_merged rules b))).0
