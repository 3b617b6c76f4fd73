use Rattle.std.proofs.Common.{◌≡◌, ◌++◌, take, drop}
use Rattle.bidi.specs.Weak.{w2}
use Rattle.bidi.proofs.weak.w2.Given as goal

abbrev pub invariant-loop-i : goal.invariant-loop-i
invariant-loop-i l = take l.i l.classes ++ w2 l.strong (drop l.i l.classes) ≡ w2 l.fn.sos l.initial.classes
