use Rattle.std.proofs.Common.{◌≡◌, ◌++◌, take, drop}
use Rattle.bidi.specs.Weak.{w6}
use Rattle.bidi.proofs.weak.w6.Given as goal

abbrev pub invariant-loop-i : goal.invariant-loop-i
invariant-loop-i l = take l.i l.classes ++ w6 (drop l.i l.classes) ≡ w6 l.initial.classes
