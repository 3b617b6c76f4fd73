use Rattle.std.proofs.Common.{◌≡◌, drop}
use Rattle.indic_shaper.specs.Attaching.{halant_from}
use Rattle.indic_shaper.proofs.initial.attaching.halant_after.Given as goal

abbrev pub invariant-loop-i : goal.invariant-loop-i
invariant-loop-i l = record { left : halant_from l.base l.i (drop l.i l.items) ≡ halant_from l.base 0 l.items }
