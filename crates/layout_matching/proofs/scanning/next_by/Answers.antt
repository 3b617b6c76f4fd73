use Rattle.std.proofs.Common.{arith}
use Rattle.std.proofs.lemmas.Bool.Decides.{nat_tests}
use Rattle.layout_matching.proofs.ScanLemmas.{one_refused}
use Rattle.layout_matching.proofs.scanning.next_by.Goals as goal

pub loop-k-preserved : goal.loop-k-preserved
loop-k-preserved c = λ g tells.
    one_refused c.args.table.now c.args.set g c.args.is_chain c.args.r c.loop-k.k (c.loop-k.invariant g tells)
    (c.rule_is_refused.ensures c.if-not-rule_is_refused.false g tells)

pub returns-clause-refused : goal.returns-clause-refused
returns-clause-refused c = λ g tells k from below.
    c.loop-k.invariant g tells k from (grind (arith, nat_tests, below, c.loop-k-test.false))
