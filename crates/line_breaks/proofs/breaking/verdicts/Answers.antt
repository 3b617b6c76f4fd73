use Rattle.std.proofs.Common.{◌+◌, ◌++◌, take, drop, get_or, reverse, sym, ap, ◌∙◌, arith}
use Rattle.std.proofs.lemmas.List.{drop_more}
use Rattle.line_breaks.specs.Around.{before_of}
use Rattle.line_breaks.specs.Breaks.{verdicts_of}
use Rattle.line_breaks.proofs.BreakLemmas.{no_unit, reverse-more, verdicts_step, length-done}
use Rattle.line_breaks.proofs.breaking.verdicts.Goals as goal

pub loop-place-preserved : goal.loop-place-preserved
loop-place-preserved c =
    let us = c.args.units.now in
    let n = c.loop-place.place in
    let lt = c.loop-place-test.true in
    let done = reverse (take n us) in
    let before = c.loop-place.invariant.before_is in
    let said = c.verdict_at.ensures done (drop (n + 1) us) (get_or us n no_unit) before (length-done us n (omega arith)) (drop_more us n no_unit lt) in
    record {
      before_is = c.step-before.ensures done before ∙ ap before_of (sym (reverse-more us n no_unit lt));
      verdicts_are = ap (λ l. l ++ verdicts_of (reverse (take (n + 1) us)) (drop (n + 1) us)) c.in_ok-push.ensures.items
          ∙ verdicts_step us n no_unit c.verdict_at.result c.loop-place.verdicts.items lt said ∙ c.loop-place.invariant.verdicts_are;
    }
