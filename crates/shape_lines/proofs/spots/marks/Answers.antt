use Rattle.std.proofs.Common.{◌≡◌, ℕ, ◌+◌, ◌<◌, ◌≤◌, false, [], ◌∷◌, ◌++◌, length, take, get_or, sym, ap, ◌∙◌, arith, inl, inr}
use Rattle.std.proofs.lemmas.Bool.{cases_lt}
use Rattle.std.proofs.lemmas.List.{take_more, take_all}
use Rattle.shape_lines.specs.Places.{cluster_at}
use Rattle.shape_lines.specs.Spots.{has, marks_of}
use Rattle.shape_lines.specs.TextOrder.{text_order}
use Rattle.shape_lines.proofs.SpotLemmas.{has-next, length-marks, mark-at}
use Rattle.shape_lines.proofs.TextOrderLemmas.{length-text, rises-text}
use Rattle.shape_lines.proofs.spots.marks.Goals as goal

pub loop-place-preserved : goal.loop-place-preserved
loop-place-preserved c =
    let b = c.args.glyphs.now in
    let gs = text_order b in
    let xs = c.args.listed.now in
    let n = c.loop-place.place in
    let cluster = c.cluster_at-cluster.result in
    let next = c.skip_below-next.result in
    let lt : n < length b.items = omega (arith, c.loop-place-test.true, c.len-place-end.ensures) in
    let short : n < length gs = omega (arith, length-text b, lt) in
    let many : n < length (marks_of xs gs) = omega (arith, length-marks xs gs, short) in
    let is = c.cluster_at-cluster.ensures in
    let below : (k : ℕ) → k < next → get_or xs k 0 < cluster = λ k less. elim (cases_lt k c.loop-place.next) [
      | inl earlier ↦ let low = c.loop-place.invariant.below k n earlier (omega arith) lt in omega (arith, low, is)
      | inr ge ↦ c.skip_below-next.ensures.below k ge less
    ] in
    let mark : c.is_next.result ≡ get_or (marks_of xs gs) n false =
    c.is_next.ensures ∙ has-next xs next cluster c.requires.sorted c.skip_below-next.ensures.within below c.skip_below-next.ensures.reached
    ∙ ap (has xs) is ∙ sym (mark-at xs gs n false short) in
    record {
      marks_are = c.in_ok-push.ensures.items ∙ ap (λ l. l ++ c.is_next.result ∷ []) c.loop-place.invariant.marks_are
          ∙ ap (λ x. take n (marks_of xs gs) ++ x ∷ []) mark ∙ sym (take_more (marks_of xs gs) n false many);
      within = c.skip_below-next.ensures.within;
      below = λ k j less from until.
          let low = below k less in
          let up = rises-text b c.requires.monotone n j (omega arith) (omega (arith, length-text b, until)) in
          omega (arith, low, up, is);
    }

pub returns : goal.returns
returns c =
    let b = c.args.glyphs.now in
    let ms = marks_of c.args.listed.now (text_order b) in
    c.loop-place.invariant.marks_are
    ∙ take_all c.loop-place.place ms (omega (arith, c.loop-place-test.false, c.len-place-end.ensures, length-marks c.args.listed.now (text_order b), length-text b))
