use Rattle.std.proofs.Common.{ℕ, ◌+◌, ◌-◌, ◌∷◌, [], ◌++◌, arith, ap, sym, subst, ◌∙◌, append_assoc, append-nil}
use Rattle.shape_items.specs.Spans.{AreSpansInOrder}
use Rattle.shape_items.proofs.MergingInOrder.EachSpanLemmas.{AreSpansInOrder-lower}
use Rattle.bench_runs.proofs.buffer.neighbours.Goals as goal

pub loop-i-preserved : goal.loop-i-preserved
loop-i-preserved c = λ later in_order.
    let i = c.loop-i.i in
    let span : ℕ × ℕ = (i - 1, i + 1) in
    let behind = AreSpansInOrder-lower (i - 1) (i + 1 - 1) c.args.len later (omega arith) in_order in
    let first : AreSpansInOrder (i - 1) c.args.len (span ∷ later) = (omega arith, omega arith, omega arith, behind) in
    subst (AreSpansInOrder 0 c.args.len)
    (sym (ap (λ spans. spans ++ later) c.in_ok-push.ensures.items ∙ append_assoc c.loop-i.spans.items (span ∷ []) later))
    (c.loop-i.invariant (span ∷ later) first)

pub returns : goal.returns
returns c = subst (AreSpansInOrder 0 c.args.len) (append-nil c.loop-i.spans.items) (c.loop-i.invariant [] tt)
