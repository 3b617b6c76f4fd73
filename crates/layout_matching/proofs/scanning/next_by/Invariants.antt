use Rattle.layout_matching.specs.Scanning.{AreRefused, TellsAll}
use Rattle.layout_matching.specs.declared.glance.Glances.{Glances}
use Rattle.layout_matching.proofs.scanning.next_by.Given as goal

abbrev pub invariant-loop-k : goal.invariant-loop-k
invariant-loop-k l = (g : Glances) → TellsAll l.is_chain l.values g → AreRefused l.table l.set g l.is_chain l.r l.k
