use Rattle.std.proofs.Common.{◌≡◌, drop}
use Rattle.bidi.specs.Sequences.{AreWithin, IsWithin, start, walked, with_sequence}
use Rattle.bidi.proofs.sequences.resolve_sequences.Given as goal

abbrev pub invariant-loop-i : goal.invariant-loop-i
invariant-loop-i l = record {
  same : walked (with_sequence l.fn.base) (drop l.i l.members) l.walk ≡ walked (with_sequence l.fn.base) l.members (start l.fn.levels.items);
  walk : IsWithin l.walk;
  members : AreWithin (drop l.i l.members);
}
