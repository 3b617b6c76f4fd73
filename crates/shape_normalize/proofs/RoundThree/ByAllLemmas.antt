-- What recomposing emits; and if marks are ordered, the mark that was emitted last decides too.
use Rattle.std.proofs.Common.{◌≡◌, ℕ, suc, true, List, [], ◌∷◌, map, None, refl, sym, ap, subst, arith, ◌∙◌}
use Rattle.std.proofs.lemmas.Bool.{cond-true, and_from}
use Rattle.shape_items.specs.Buffer.{Buffer}
use Rattle.shape_items.specs.Items.{Item, ccc_of_item}
use Rattle.shape_items.proofs.Merging.KeyLemmas.{IsKey-ccc}
use Rattle.canonical_form.specs.Order.{IsOrdered}
use Rattle.canonical_form.specs.Runs.{AreRunsSettled}
use Rattle.canonical_form.proofs.Recomposing.BlockLemmas.{recomposed_by_last as last_decides}
use Rattle.canonical_form.proofs.Ordering.RunLemmas.{AreRunsSettled-ordered}
use Rattle.shape_plan.specs.Rules.{Rules}
use Rattle.shape_normalize.specs.Normalized.{ordered, normalized, without_cluster, HasShortRuns, Recomposes}
use Rattle.shape_normalize.specs.RoundOne.{round_one}
use Rattle.shape_items.specs.Spans.{spans_merged_out}
use Rattle.shape_normalize.specs.RoundThree.{Placed, placed, ccc_of_placed, is_mark_placed, compose_placed, recomposed_items, recomposed_by_last, absorbed_spans, with_cluster_at, with_put_out, round_three}
use Rattle.shape_normalize.specs.RoundTwo.{max_run, has_mark_past_first, marks_ordered, cgj_unhidden_where_seen}
use Rattle.shape_normalize.proofs.RoundTwo.CgjLemmas.{keys-cgj_unhidden_where_seen}
use Rattle.shape_normalize.proofs.RoundTwo.OrderedLemmas.{marks_ordered_settles}

-- ordered ccc are those of ordered items
ordered_placed : (place : ℕ) (items : List Item) → IsOrdered (λ ccc. ccc) (map ccc_of_item items)
    → IsOrdered ccc_of_placed (placed place items)
ordered_placed place [] up = tt
ordered_placed place (x ∷ []) up = tt
ordered_placed place (x ∷ y ∷ rest) up = (up.0, ordered_placed (suc place) (y ∷ rest) up.1)

put_out : (items : List Item) (out : List Placed)
    → map without_cluster (map (with_cluster_at items) out) ≡ map (λ p. without_cluster p.item) out
put_out items [] = refl
put_out items (p ∷ out) = ap (λ rest. without_cluster p.item ∷ rest) (put_out items out)

module _ (rules : Rules) (old : Buffer) (marked : has_mark_past_first old.items ≡ true) (none : rules.reorder ≡ None)
    (short : HasShortRuns (round_one rules old).items) where
  ordered_is : ordered rules old ≡ cgj_unhidden_where_seen (marks_ordered None (round_one rules old))
  ordered_is =
      ap cgj_unhidden_where_seen (cond-true _ (marks_ordered rules.reorder (round_one rules old)) (round_one rules old) marked
      ∙ ap (λ hook. marks_ordered hook (round_one rules old)) none)

  cccs_settled : AreRunsSettled (λ ccc. ccc) max_run [] (map ccc_of_item (round_one rules old).items)
      (map ccc_of_item (ordered rules old).items)
  cccs_settled =
      subst (AreRunsSettled (λ ccc. ccc) max_run [] (map ccc_of_item (round_one rules old).items))
      (sym (ap (λ (c : Buffer). map ccc_of_item c.items) ordered_is
      ∙ keys-cgj_unhidden_where_seen ccc_of_item (λ item. refl) (marks_ordered None (round_one rules old))))
      (marks_ordered_settles ccc_of_item IsKey-ccc (λ ccc. ccc) (λ item. refl) (round_one rules old))

  by_last : recomposed_items rules (ordered rules old).items ≡ recomposed_by_last rules (ordered rules old).items
  by_last =
      last_decides ccc_of_placed is_mark_placed (compose_placed rules) (placed 0 (ordered rules old).items)
      (ordered_placed 0 (ordered rules old).items
      (AreRunsSettled-ordered (λ ccc. ccc) max_run [] (map ccc_of_item (round_one rules old).items)
      (map ccc_of_item (ordered rules old).items) (λ k d h. absurd (omega arith)) short cccs_settled))

composed_is : (rules : Rules) (old new : Buffer) → new ≡ normalized rules old → has_mark_past_first old.items ≡ true
    → rules.recomposes ≡ true → new ≡ round_three rules (ordered rules old)
composed_is rules old new is marked composes =
    is ∙ cond-true _ (round_three rules (ordered rules old)) (ordered rules old)
    (and_from (has_mark_past_first old.items) rules.recomposes marked composes)

pub normalized_recomposes : (rules : Rules) (old new : Buffer) → new ≡ normalized rules old → Recomposes rules old new
normalized_recomposes rules old new is = record {
  by_all = λ marked composes.
      let out : List Placed = recomposed_items rules (ordered rules old).items in
      ap (λ (c : Buffer). map without_cluster c.items) (composed_is rules old new is marked composes)
      ∙ put_out (spans_merged_out (absorbed_spans out) (ordered rules old)).items out;
  by_last = λ marked composes none short.
      composed_is rules old new is marked composes
      ∙ ap (with_put_out rules (ordered rules old)) (by_last rules old marked none short);
}
