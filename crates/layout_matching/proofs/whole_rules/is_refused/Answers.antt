use Rattle.layout_matching.proofs.WholeRuleLemmas.{refused_after}
use Rattle.layout_matching.proofs.whole_rules.is_refused.Goals as goal

pub returns-then-misses_after : goal.returns-then-misses_after
returns-then-misses_after c = λ yes start rule counted nearest.
    refused_after c.args.lookup.now c.args.items.now c.args.origin start rule c.args.stored.now
    (c.misses_after.ensures.some c.if-misses_after.true) (c.misses_after.ensures.missed c.if-misses_after.true) counted nearest
