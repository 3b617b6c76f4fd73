use Rattle.layout_positions.specs.Digested.{AreUnheld}
use Rattle.layout_positions.proofs.steps.unheld.Given as goal

abbrev pub invariant-loop-k : goal.invariant-loop-k
invariant-loop-k l = AreUnheld l.digest l.items l.from l.k
