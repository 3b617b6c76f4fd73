use Rattle.std.proofs.Common.{◌∙◌, sym, refl, arith}
use Rattle.shape_font.proofs.MidpointLemmas.{enough, found_in-none, step_less, step_equal, step_greater}
use Rattle.shape_font.proofs.search.found_within.Goals as goal

pub loop-start-init : goal.loop-start-init
loop-start-init g c = record { within = omega arith; same = λ says tells. enough says _ c.args.count 0 c.args.count (omega arith) (omega arith) }

pub loop-start-preserved-in-Less : goal.loop-start-preserved-in-Less
loop-start-preserved-in-Less g c =
    let kept = c.loop-start.invariant in
    let some = c.loop-start-test.true in
    record {
      within = omega (arith, kept.within, some);
      same = λ says tells.
          let there = tells _ c.side.result (omega (arith, kept.within, some)) c.side.ensures in
          sym (step_less says c.loop-start.start c.loop-start.end _ some refl (sym there ∙ c.in-Less.is)) ∙ kept.same says tells;
    }

pub returns-in-Equal-clause-found : goal.returns-in-Equal-clause-found
returns-in-Equal-clause-found g c = λ says tells.
    let kept = c.loop-start.invariant in
    let some = c.loop-start-test.true in
    let there = tells _ c.side.result (omega (arith, kept.within, some)) c.side.ensures in
    sym (step_equal says c.loop-start.start c.loop-start.end _ some refl (sym there ∙ c.in-Equal.is)) ∙ kept.same says tells

pub loop-start-preserved : goal.loop-start-preserved
loop-start-preserved g c =
    let kept = c.loop-start.invariant in
    let some = c.loop-start-test.true in
    record {
      within = kept.within;
      same = λ says tells.
          let there = tells _ c.side.result (omega (arith, kept.within, some)) c.side.ensures in
          sym (step_greater says c.loop-start.start c.loop-start.end _ some refl (sym there ∙ c.in-Greater.is)) ∙ kept.same says tells;
    }

pub returns-clause-found : goal.returns-clause-found
returns-clause-found g c = λ says tells.
    let kept = c.loop-start.invariant in
    sym (found_in-none says _ c.loop-start.start c.loop-start.end (omega (arith, c.loop-start-test.false))) ∙ kept.same says tells
