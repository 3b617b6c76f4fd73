use Rattle.std.proofs.Common.{arith}
use Rattle.std.proofs.lemmas.Bool.Decides.{nat_tests}
use Rattle.layout_matching.proofs.FirstLemmas.{one_out}
use Rattle.layout_matching.proofs.indexed.Indexed.next_begun.Goals as goal

pub loop-k-preserved : goal.loop-k-preserved
loop-k-preserved c = one_out c.args.self.now.lookup.now c.args.i c.loop-k.k c.args.glyph c.loop-k.invariant
    (c.stored_begins.ensures c.if-stored_begins.false)

pub returns-clause-out : goal.returns-clause-out
returns-clause-out c = λ k from below. c.loop-k.invariant k from (grind (arith, nat_tests, below, c.loop-k-test.false))
