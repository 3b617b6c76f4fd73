use Rattle.std.proofs.Common.{◌<◌, length, sym, ◌∙◌, arith, eq-eqb, ne_eqb}
use Rattle.line_breaks.proofs.BreakLemmas.{no_unit, offsets_one, offsets_none}
use Rattle.line_breaks.proofs.breaking.offsets.Goals as goal
use Rattle.line_breaks.proofs.breaking.offsets.Goals.{then-number+in_ok-push, else-number}

pub loop-place-preserved : goal.loop-place-preserved
loop-place-preserved c =
    let us = c.args.units.now in
    let vs = c.args.verdicts.now in
    let n = c.loop-place.place in
    let lt = c.loop-place-test.true in
    let lt' : n < length vs = omega (arith, c.requires, lt) in
    elim c.if-number.branch [
      | then-number+in_ok-push w ↦
          rw (w.offsets-is, w.in_ok-push.ensures.items)
          (offsets_one c.args.wanted us vs n no_unit _ c.loop-place.offsets.items lt lt'
          (eq-eqb _ _ (sym c.number.ensures ∙ w.if-number.true ∙ c.number-in-loop-place.ensures)) ∙ c.loop-place.invariant)
      | else-number w ↦
          rw w.offsets-is
          (offsets_none c.args.wanted us vs n no_unit _ c.loop-place.offsets.items lt lt'
          (ne_eqb _ _ (λ e. w.if-number.false (c.number.ensures ∙ e ∙ sym c.number-in-loop-place.ensures))) ∙ c.loop-place.invariant)
    ]
