use Rattle.std.proofs.Common.{◌≡◌, ◌++◌, drop}
use Rattle.bidi.proofs.PlainLemmas.{plain_from}
use Rattle.bidi.proofs.members.plain_members.Given as goal

abbrev pub invariant-loop-i : goal.invariant-loop-i
invariant-loop-i l = l.members.items ++ plain_from l.fn.base l.i (drop l.i l.text) (drop l.i l.classes) ≡ plain_from l.fn.base 0 l.text l.classes
