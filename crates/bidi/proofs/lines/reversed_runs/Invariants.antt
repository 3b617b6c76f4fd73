use Rattle.std.proofs.Common.{◌≡◌, ◌++◌, [], reverse, drop}
use Rattle.bidi.specs.Lines.{reversed_runs}
use Rattle.bidi.proofs.lines.reversed_runs.Given as goal

abbrev pub invariant-loop-i : goal.invariant-loop-i
invariant-loop-i l = l.out.items ++ reversed_runs l.fn.level (reverse l.run.items) (drop l.i l.places) ≡ reversed_runs l.fn.level [] l.places
