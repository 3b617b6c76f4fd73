use Rattle.std.proofs.Common.{◌-◌, sym, ap, ◌∙◌}
use Rattle.layout_matching.specs.declared.passing.Passing.{Passing}
use Rattle.layout_matching.proofs.PassingLemmas.{before_stops}
use Rattle.layout_matching.proofs.passing.passed_before.Goals as goal

pub returns-then-passing-eq0 : goal.returns-then-passing-eq0
returns-then-passing-eq0 c =
    sym (ap (λ (p : Passing). p.total) (c.loop-d.invariant
    ∙ before_stops c.args.lookup.now c.args.listed c.args.items.now c.args.at (c.args.at - c.loop-d.d) c.loop-d.d c.loop-d.passing
    c.if-passing-eq0.true))
