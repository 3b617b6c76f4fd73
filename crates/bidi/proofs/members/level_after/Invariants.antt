use Rattle.std.proofs.Common.{◌≡◌, drop}
use Rattle.bidi.specs.Members.{level_after}
use Rattle.bidi.proofs.members.level_after.Given as goal

abbrev pub invariant-loop-i : goal.invariant-loop-i
invariant-loop-i l = level_after l.fn.base (drop l.i l.classes) (drop l.i l.placed) ≡ level_after l.fn.base (drop l.fn.start l.classes) (drop l.fn.start l.placed)
