use Rattle.layout_digests.proofs.WordLemmas.{in_two}
use Rattle.layout_digests.proofs.digest.span.Goals as goal

pub returns-then-first-last-2 : goal.returns-then-first-last-2
returns-then-first-last-2 c =
    in_two c.ones_from-from.result c.ones_to-to.result c.args.first c.args.last c.if-first-last-2.true c.ones_from-from.ensures c.ones_to-to.ensures
