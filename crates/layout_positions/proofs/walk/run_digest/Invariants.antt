use Rattle.layout_positions.specs.Digested.{HoldsFirst}
use Rattle.layout_positions.proofs.walk.run_digest.Given as goal

abbrev pub invariant-loop-i : goal.invariant-loop-i
invariant-loop-i l = HoldsFirst l.all l.items l.i
