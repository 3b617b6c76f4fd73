use Rattle.layout_positions.proofs.PairedLemmas.{Passes}
use Rattle.layout_positions.proofs.paired.first_pair.Given as goal

-- the subtables so far do nothing
abbrev pub invariant-loop-k : goal.invariant-loop-k
invariant-loop-k l = Passes l.indexed.lookup.now l.left l.right l.k
