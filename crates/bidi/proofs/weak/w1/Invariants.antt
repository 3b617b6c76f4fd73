use Rattle.std.proofs.Common.{◌≡◌, ◌++◌, take, drop}
use Rattle.bidi.specs.Weak.{w1}
use Rattle.bidi.proofs.weak.w1.Given as goal

abbrev pub invariant-loop-i : goal.invariant-loop-i
invariant-loop-i l = take l.i l.classes ++ w1 l.before (drop l.i l.classes) ≡ w1 l.fn.sos l.initial.classes
