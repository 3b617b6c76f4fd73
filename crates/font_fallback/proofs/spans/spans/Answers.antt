use Rattle.std.proofs.Common.{◌≡◌, ◌∷◌, [], ◌++◌, length, slice_index, refl, sym, subst, arith, append_assoc}
use Rattle.std.proofs.lemmas.List.{append-nil}
use Rattle.font_fallback.specs.Choice.{AreSpans, IsSpan}
use Rattle.font_fallback.specs.declared.spans.Span.{Span}
use Rattle.font_fallback.proofs.spans.spans.Goals as goal

pub loop-start-preserved : goal.loop-start-preserved
loop-start-preserved c =
    let fonts = c.args.fonts.now in
    let start = c.loop-start.start in
    let end = c.same_until-end.result in
    let one : Span = record { font = slice_index fonts start; start = start; end = end } in
    let is : IsSpan (λ k. slice_index fonts k) start one =
    record { begins = refl; some = c.same_until-end.ensures.after; one_font = c.same_until-end.ensures.same } in
    record {
      within = c.same_until-end.ensures.within;
      spans_on = λ rest later.
          let more = c.loop-start.invariant.spans_on (one ∷ rest) (is, c.same_until-end.ensures.other, later) in
          subst (λ l. AreSpans (λ k. slice_index fonts k) 0 (length fonts) (l ++ rest)) (sym c.in_ok-push.ensures.items)
          (subst (AreSpans (λ k. slice_index fonts k) 0 (length fonts)) (sym (append_assoc c.loop-start.spans.items (one ∷ []) rest)) more);
    }

pub returns : goal.returns
returns c =
    let fonts = c.args.fonts.now in
    let all : c.loop-start.start ≡ length fonts = omega (arith, c.loop-start.invariant.within, c.loop-start-test.false) in
    subst (AreSpans (λ k. slice_index fonts k) 0 (length fonts)) (append-nil c.loop-start.spans.items)
    (c.loop-start.invariant.spans_on [] all)
