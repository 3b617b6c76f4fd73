use Rattle.std.proofs.Common.{◌≡◌, drop}
use Rattle.bidi.specs.Weak.{leads_to_number}
use Rattle.bidi.proofs.weak.leads_to_number.Given as goal

abbrev pub invariant-loop-i : goal.invariant-loop-i
invariant-loop-i l = leads_to_number (drop l.i l.classes) ≡ leads_to_number (drop l.fn.start l.classes)
