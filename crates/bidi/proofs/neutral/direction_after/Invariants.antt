use Rattle.std.proofs.Common.{◌≡◌, drop}
use Rattle.bidi.specs.Neutral.{direction_after}
use Rattle.bidi.proofs.neutral.direction_after.Given as goal

abbrev pub invariant-loop-i : goal.invariant-loop-i
invariant-loop-i l = direction_after l.fn.eos (drop l.i l.classes) ≡ direction_after l.fn.eos (drop l.fn.start l.classes)
