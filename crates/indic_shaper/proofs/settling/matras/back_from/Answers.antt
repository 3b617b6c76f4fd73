use Rattle.std.proofs.Common.{◌∙◌, sym, arith}
use Rattle.indic_shaper.specs.Settling.Matras.{goes_on}
use Rattle.indic_shaper.proofs.WalkLemmas.{back_while-step, back_while-start, back_while-stop}
use Rattle.indic_shaper.proofs.settling.matras.back_from.Goals as goal

pub loop-i-preserved : goal.loop-i-preserved
loop-i-preserved c = record {
  from = omega (arith, c.loop-i-test.true);
  to = omega (arith, c.loop-i.invariant.to);
  left = back_while-step (goes_on c.args.infos.now c.args.end) c.args.start c.loop-i.i c.loop-i-test.true
      (sym c.goes_on.ensures ∙ c.if-goes_on.true) ∙ c.loop-i.invariant.left;
}

pub returns-else-goes_on-clause-value : goal.returns-else-goes_on-clause-value
returns-else-goes_on-clause-value c =
    sym (back_while-stop (goes_on c.args.infos.now c.args.end) c.args.start c.loop-i.i (sym c.goes_on.ensures ∙ c.if-goes_on.false))
    ∙ c.loop-i.invariant.left

pub returns-after-loop-i-clause-value : goal.returns-after-loop-i-clause-value
returns-after-loop-i-clause-value c =
    sym (back_while-start (goes_on c.args.infos.now c.args.end) c.args.start c.loop-i.i c.loop-i-test.false) ∙ c.loop-i.invariant.left
