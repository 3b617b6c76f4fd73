use Rattle.std.proofs.Common.{◌≡◌, length, drop}
use Rattle.bidi.specs.Brackets.{with_bracket, with_marks}
use Rattle.bidi.proofs.brackets.set_bracket.Given as goal

abbrev pub invariant-loop-i : goal.invariant-loop-i
invariant-loop-i l = record {
  same : with_marks l.fn.direction l.i (drop l.i l.members) l.classes ≡ with_bracket l.fn.direction l.members l.fn.place l.fn.classes;
  length : length l.classes ≡ length l.fn.classes;
}
