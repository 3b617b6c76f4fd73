-- Round three: what composing in place, merging and taking out leave is what the round leaves.
use Rattle.std.proofs.Common.{◌≡◌, ℕ, List, [], ◌∷◌, length, map, get_or, replicate, refl, sym, ap, ap₂, subst, ◌∙◌}
use Rattle.std.proofs.Math.ListN.{get_or-map}
use Rattle.std.proofs.lemmas.List.{length-map}
use Rattle.std.specs.List.{AllByRecursion}
use Rattle.shape_items.specs.Buffer.{Buffer, cleared, limit_of}
use Rattle.shape_items.specs.Items.{Item}
use Rattle.shape_common.specs.Positions.{zero_position}
use Rattle.shape_common.specs.declared.flags.ScratchFlags.{ScratchFlags}
use Rattle.shape_items.proofs.MergingInOrder.EachSpanLemmas.{spans_merged_out_is, length-spans_merged_out}
use Rattle.shape_normalize.specs.Recast.{seen_chars}
use Rattle.shape_items.specs.Spans.{AreSpansInOrder, spans_merged_out}
use Rattle.shape_normalize.specs.RoundThree.{Placed, recomposed_items, absorbed_spans, chained_spans, composed_chars, with_cluster_at, round_three, cluster_and_mask, AreComposedInPlace, without_ends, ends_taken_out}
use Rattle.shape_plan.specs.Rules.{Rules}
use Rattle.shape_normalize.proofs.RoundThree.ChainedSpanLemmas.{chained_in_order, chained_merged}
use Rattle.shape_normalize.proofs.RoundThree.MergedMarkLemmas.{marks-merged_out, bare, bare-merged_out}
use Rattle.shape_normalize.proofs.RoundThree.RoundThreeWalkLemmas.{IsInPlace, each_in_place}
use Rattle.shape_normalize.proofs.RoundThree.TakenOutLemmas.{left_in_place}

-- ---- the spans are merged

pub cleared-spans_merged_out : (spans : List (ℕ × ℕ)) (b : Buffer) → cleared (spans_merged_out spans b) ≡ cleared b
cleared-spans_merged_out spans b = ap cleared (spans_merged_out_is spans b)

pub limit-spans_merged_out : (spans : List (ℕ × ℕ)) (b : Buffer) → limit_of (spans_merged_out spans b) ≡ limit_of b
limit-spans_merged_out spans b = ap limit_of (spans_merged_out_is spans b)

-- those of the code are in order, once characters were composed in place too
pub walked_spans_in_order : (rules : Rules) (old new : List Item) (spans : List (ℕ × ℕ)) → AreComposedInPlace rules old new
    → spans ≡ chained_spans (recomposed_items rules old) → AreSpansInOrder 0 (length new) spans
walked_spans_in_order rules old new spans items_are spans_are =
    let size : length old ≡ length new =
    sym (length-map old cluster_and_mask) ∙ ap length (sym items_are.same) ∙ length-map new cluster_and_mask in
    subst (AreSpansInOrder 0 (length new)) (sym spans_are)
    (subst (λ n. AreSpansInOrder 0 n (chained_spans (recomposed_items rules old))) size (chained_in_order rules old))

-- ---- the items that are emitted, once the clusters are merged

module _ (now merged settled : List Item) (bares : map bare settled ≡ map bare now)
    (marks : map cluster_and_mask settled ≡ map cluster_and_mask merged) where
  settled_one : (p : Placed) → IsInPlace now p → get_or settled p.place p.item ≡ with_cluster_at merged p
  settled_one p here =
      let one = get_or settled p.place p.item in
      let bare_is : bare one ≡ bare p.item =
      sym (get_or-map bare settled p.place p.item) ∙ ap (λ l. get_or l p.place (bare p.item)) bares
      ∙ get_or-map bare now p.place p.item ∙ ap bare here.1 in
      let marks_are : cluster_and_mask one ≡ cluster_and_mask (get_or merged p.place p.item) =
      sym (get_or-map cluster_and_mask settled p.place p.item) ∙ ap (λ l. get_or l p.place (cluster_and_mask p.item)) marks
      ∙ get_or-map cluster_and_mask merged p.place p.item in
      ap₂ (λ (b : Item) (m : ℕ × ℕ). record b { cluster = m.0; mask = m.1 }) bare_is marks_are

  settled_each : (out : List Placed) → AllByRecursion (IsInPlace now) out
      → map (λ (p : Placed). get_or settled p.place p.item) out ≡ map (with_cluster_at merged) out
  settled_each [] each = refl
  settled_each (p ∷ out) each = ap₂ ◌∷◌ (settled_one p each.0) (settled_each out each.1)

-- ---- the round

-- the composed characters were put in place, the spans merged, and their last items taken out
module _ (rules : Rules) (old composed merged new : Buffer) (spans : List (ℕ × ℕ))
    (spans_are : spans ≡ chained_spans (recomposed_items rules old.items))
    (items_are : AreComposedInPlace rules old.items composed.items)
    (flags_are : composed.scratch_flags ≡ seen_chars rules.unicode old.scratch_flags (composed_chars (recomposed_items rules old.items)))
    (rest_is : composed ≡ record old { items = composed.items; scratch_flags = composed.scratch_flags })
    (merged_is : merged ≡ spans_merged_out spans composed) (new_is : new ≡ ends_taken_out spans merged) where
  put_out : List Placed
  put_out = recomposed_items rules old.items

  spanned : Buffer
  spanned = spans_merged_out (absorbed_spans put_out) old

  changed : Buffer
  changed = record old { items = composed.items; scratch_flags = composed.scratch_flags }

  merged_changed : merged ≡ spans_merged_out (chained_spans put_out) changed
  unfolding put_out changed
  merged_changed = merged_is ∙ ap₂ spans_merged_out spans_are rest_is

  merged_but : merged ≡ record changed { items = merged.items }
  merged_but =
      merged_changed ∙ spans_merged_out_is (chained_spans put_out) changed
      ∙ sym (ap (λ (b : Buffer). record changed { items = b.items }) merged_changed)

  size : length merged.items ≡ length old.items
  unfolding changed
  size =
      ap (λ (b : Buffer). length b.items) merged_changed ∙ length-spans_merged_out (chained_spans put_out) changed
      ∙ sym (length-map composed.items cluster_and_mask) ∙ ap length items_are.same ∙ length-map old.items cluster_and_mask

  bares : map bare merged.items ≡ map bare composed.items
  unfolding changed
  bares = ap (λ (b : Buffer). map bare b.items) merged_changed ∙ bare-merged_out (chained_spans put_out) changed

  marks : map cluster_and_mask merged.items ≡ map cluster_and_mask spanned.items
  unfolding put_out spanned changed
  marks =
      ap (λ (b : Buffer). map cluster_and_mask b.items) merged_changed
      ∙ marks-merged_out (chained_spans put_out) old composed.items composed.scratch_flags items_are.same
      ∙ ap (λ (b : Buffer). map cluster_and_mask b.items) (chained_merged rules old)

  left : without_ends 0 spans merged.items ≡ map (with_cluster_at spanned.items) put_out
  unfolding put_out
  left =
      ap (λ s. without_ends 0 s merged.items) spans_are ∙ left_in_place rules old.items merged.items size
      ∙ settled_each composed.items spanned.items merged.items bares marks put_out (each_in_place composed.items put_out items_are.in_place)

  pub is_round_three : new ≡ round_three rules old
  unfolding put_out spanned changed
  is_round_three =
      new_is
      ∙ ap₂ (λ (m : Buffer) (l : List Item). record m { items = l; positions = replicate (length l) zero_position }) merged_but left
      ∙ ap₂ (λ n (f : ScratchFlags). record old {
        items = map (with_cluster_at spanned.items) put_out;
        positions = replicate n zero_position;
        scratch_flags = f;
      }) (length-map put_out (with_cluster_at spanned.items)) flags_are
      ∙ sym (ap (λ (b : Buffer). record b {
        items = map (with_cluster_at spanned.items) put_out;
        positions = replicate (length put_out) zero_position;
        scratch_flags = seen_chars rules.unicode old.scratch_flags (composed_chars put_out);
      }) (spans_merged_out_is (absorbed_spans put_out) old))

  pub settings_are : cleared new ≡ cleared old
  settings_are = ap cleared (new_is ∙ ap (ends_taken_out spans) merged_is) ∙ cleared-spans_merged_out spans composed ∙ ap cleared rest_is
