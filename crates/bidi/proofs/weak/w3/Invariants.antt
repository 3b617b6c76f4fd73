use Rattle.std.proofs.Common.{◌≡◌, ◌++◌, take, drop}
use Rattle.bidi.specs.Weak.{w3}
use Rattle.bidi.proofs.weak.w3.Given as goal

abbrev pub invariant-loop-i : goal.invariant-loop-i
invariant-loop-i l = take l.i l.classes ++ w3 (drop l.i l.classes) ≡ w3 l.initial.classes
