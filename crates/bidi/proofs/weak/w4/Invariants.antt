use Rattle.std.proofs.Common.{◌≡◌, ◌++◌, take, drop}
use Rattle.bidi.specs.Weak.{w4}
use Rattle.bidi.proofs.weak.w4.Given as goal

abbrev pub invariant-loop-i : goal.invariant-loop-i
invariant-loop-i l = take l.i l.classes ++ w4 l.before (drop l.i l.classes) ≡ w4 l.fn.sos l.initial.classes
