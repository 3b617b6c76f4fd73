use Rattle.layout_positions.specs.Paired.{found_in}
use Rattle.layout_positions.proofs.PairedLemmas.{out_has}
use Rattle.layout_positions.proofs.paired.pair_at.Goals as goal

pub returns-then-not-may_begin : goal.returns-then-not-may_begin
returns-then-not-may_begin c = out_has c.args.indexed.now.lookup.now c.args.left c.args.right c.args.k
    (found_in c.nothing_found.result) c.if-lookup.true (c.may_begin.ensures c.if-not-may_begin.true) c.nothing_found.ensures
