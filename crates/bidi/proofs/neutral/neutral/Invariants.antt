use Rattle.std.proofs.Common.{◌≡◌, ◌++◌, take, drop, true}
use Rattle.bidi.specs.Neutral.{neutral, direction_after}
use Rattle.bidi.proofs.neutral.neutral.Given as goal

abbrev pub invariant-loop-i : goal.invariant-loop-i
invariant-loop-i l = record {
  done : take l.i l.classes ++ neutral l.fn.embedding l.fn.eos l.before (drop l.i l.classes) ≡ neutral l.fn.embedding l.fn.eos l.fn.sos l.initial.classes;
  known : l.inside ≡ true → l.after ≡ direction_after l.fn.eos (drop l.i l.classes);
}
