use Rattle.std.proofs.Common.{◌≤◌, length}
use Rattle.bidi.proofs.LineLemmas.{IsEndedFrom}
use Rattle.bidi.proofs.lines.line_levels.Given as goal

abbrev pub invariant-loop-i : goal.invariant-loop-i
invariant-loop-i l = record {
  within : l.i ≤ length l.classes;
  done : IsEndedFrom l.fn.base l.classes l.fn.levels l.levels l.ended l.i;
}

abbrev pub decreases-loop-i : goal.decreases-loop-i
decreases-loop-i l = l.i
