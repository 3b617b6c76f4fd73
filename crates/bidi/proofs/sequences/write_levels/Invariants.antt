use Rattle.std.proofs.Common.{◌≡◌, drop}
use Rattle.bidi.specs.Sequences.{AreWithin, with_levels}
use Rattle.bidi.proofs.sequences.write_levels.Given as goal

abbrev pub invariant-loop-i : goal.invariant-loop-i
invariant-loop-i l = record {
  same : with_levels (drop l.i l.members) (drop l.i l.classes) l.levels ≡ with_levels l.members l.classes l.fn.levels;
  within : AreWithin (drop l.i l.members);
}
