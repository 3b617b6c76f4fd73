-- In the order of the text the glyph after a place tells of its whole cluster.
use Rattle.std.proofs.Common.{◌≡◌, ℕ, zero, suc, ◌+◌, ◌-◌, ◌<◌, List, length, sym, ap, ◌∙◌, arith, inl, inr}
use Rattle.std.proofs.lemmas.Bool.{cases_lt}
use Rattle.shape_lines.specs.Places.{cluster_at, lacks_break_at, IsPlaceOfCut, BeginsSafely}
use Rattle.shape_lines.specs.TextOrder.{Glyph}
use Rattle.shape_lines.proofs.TextOrderLemmas.{ClustersRise, HasOneFlag}

module _ (gs : List Glyph) (rise : ClustersRise gs) (one : HasOneFlag gs) where
  -- from a glyph on all of its cluster have its flag
  alike_after : (place m : ℕ) → place + m < length gs → cluster_at gs (place + m) ≡ cluster_at gs place
      → lacks_break_at gs (place + m) ≡ lacks_break_at gs place
  alike_after place zero lt same = ap (lacks_break_at gs) (omega arith)
  alike_after place (suc m) lt same =
      let e : place + suc m ≡ suc (place + m) = omega arith in
      let low = rise place (place + m) (omega arith) (omega arith) in
      let high = rise (place + m) (place + suc m) (omega arith) lt in
      let near : cluster_at gs (place + m) ≡ cluster_at gs place = omega arith in
      let next : cluster_at gs (place + m) ≡ cluster_at gs (suc (place + m)) = near ∙ sym same ∙ ap (cluster_at gs) e in
      ap (lacks_break_at gs) e ∙ sym (one (place + m) (omega arith) next) ∙ alike_after place m (omega arith) near

  pub place_from_begin : (place : ℕ) → 0 < place → place < length gs → BeginsSafely gs place → IsPlaceOfCut gs place
  place_from_begin zero some lt begins = absurd (omega arith)
  place_from_begin (suc k) some lt begins =
      let back : suc k - 1 ≡ k = omega arith in
      let up = rise k (suc k) (omega arith) lt in
      let here : cluster_at gs (suc k - 1) ≡ cluster_at gs k = ap (cluster_at gs) back in
      let above : cluster_at gs k < cluster_at gs (suc k) = elim (cases_lt (cluster_at gs k) (cluster_at gs (suc k))) [
        | inl less ↦ less
        | inr le ↦ let same : cluster_at gs k ≡ cluster_at gs (suc k) = omega arith in absurd (begins.differ (here ∙ same))
      ] in
      record {
        beyond = some;
        before = lt;
        differ = begins.differ;
        safe = λ j within is_greater.
            let greater : cluster_at gs j ≡ cluster_at gs (suc k) = omega arith in
            elim (cases_lt j (suc k)) [
              | inl earlier ↦ let low = rise j k (omega arith) (omega arith) in absurd (omega arith)
              | inr later ↦
                  let at : suc k + (j - suc k) ≡ j = omega arith in
                  sym (ap (lacks_break_at gs) at)
                  ∙ alike_after (suc k) (j - suc k) (omega arith) (ap (cluster_at gs) at ∙ greater) ∙ begins.lacks
            ];
      }

  pub begin_from_place : (place : ℕ) → IsPlaceOfCut gs place → BeginsSafely gs place
  begin_from_place place h =
      let some = h.beyond in
      let lt = h.before in
      let up = rise (place - 1) place (omega arith) lt in
      record { differ = h.differ; lacks = h.safe place lt (omega arith) }
