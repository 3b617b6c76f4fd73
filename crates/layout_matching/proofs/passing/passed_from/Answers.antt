use Rattle.std.proofs.Common.{◌-◌, length, sym, ap, ◌∙◌}
use Rattle.layout_matching.specs.declared.passing.Passing.{Passing}
use Rattle.layout_matching.proofs.PassingLemmas.{after_stops}
use Rattle.layout_matching.proofs.passing.passed_from.Goals as goal

pub returns-then-passing-eq0 : goal.returns-then-passing-eq0
returns-then-passing-eq0 c =
    let items = c.args.items.now in
    sym (ap (λ (p : Passing). p.total) (c.loop-j.invariant
    ∙ after_stops c.args.lookup.now c.args.listed items (length items - c.loop-j.j) c.loop-j.j c.loop-j.passing c.if-passing-eq0.true))
