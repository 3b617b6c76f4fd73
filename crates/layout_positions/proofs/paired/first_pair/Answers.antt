use Rattle.std.proofs.Common.{sym, ◌∙◌}
use Rattle.layout_positions.specs.Paired.{found_in}
use Rattle.layout_positions.proofs.PairedLemmas.{passes_on, found_first}
use Rattle.layout_positions.proofs.paired.first_pair.Goals as goal

pub returns-then-has_found : goal.returns-then-has_found
returns-then-has_found c = found_first c.args.indexed.now.lookup.now c.args.left c.args.right c.loop-k.k c.subtable_count-k-end.result
    (found_in c.in_ok-found.found) c.loop-k.invariant c.in_ok-found.ensures (sym c.has_found.ensures ∙ c.if-has_found.true) c.loop-k-test.true
    c.subtable_count-k-end.ensures.value

pub loop-k-preserved : goal.loop-k-preserved
loop-k-preserved c = passes_on c.args.indexed.now.lookup.now c.args.left c.args.right c.loop-k.k (found_in c.in_ok-found.found) c.loop-k.invariant
    c.in_ok-found.ensures (sym c.has_found.ensures ∙ c.if-has_found.false)
