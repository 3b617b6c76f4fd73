use Rattle.std.proofs.Common.{◌≡◌, ◌++◌, drop}
use Rattle.bidi.specs.Members.{members, members_from}
use Rattle.bidi.proofs.members.members.Given as goal

abbrev pub invariant-loop-i : goal.invariant-loop-i
invariant-loop-i l = l.members.items ++ members_from l.fn.base l.before l.i (drop l.i l.text) (drop l.i l.classes) (drop l.i l.placed)
    ≡ members l.fn.base l.text l.classes l.placed
