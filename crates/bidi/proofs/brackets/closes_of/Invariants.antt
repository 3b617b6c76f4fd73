use Rattle.std.proofs.Common.{◌≡◌, length, drop}
use Rattle.bidi.specs.Brackets.{no_pairs, pairs_from}
use Rattle.bidi.proofs.brackets.closes_of.Given as goal

abbrev pub invariant-loop-i : goal.invariant-loop-i
invariant-loop-i l = pairs_from l.i l.pairs (drop l.i l.members) (drop l.i l.classes) ≡ pairs_from 0 (no_pairs (length l.members)) l.members l.classes
