use Rattle.std.proofs.Common.{◌≡◌, length, drop}
use Rattle.bidi.specs.Brackets.{n0_from}
use Rattle.bidi.proofs.brackets.resolve_pairs.Given as goal

abbrev pub invariant-loop-place : goal.invariant-loop-place
invariant-loop-place l = record {
  same : n0_from l.fn.embedding l.members l.place l.before (drop l.place l.closes) l.classes ≡ n0_from l.fn.embedding l.members 0 l.fn.sos l.closes l.fn.classes;
  length : length l.classes ≡ length l.fn.classes;
}
