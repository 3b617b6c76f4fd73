use Rattle.std.proofs.Common.{◌≡◌, ◌++◌, replicate}
use Rattle.text_lines.proofs.reading.add_times.Given as goal

abbrev pub invariant-loop-done : goal.invariant-loop-done
invariant-loop-done g l = l.values.items ≡ l.fn.values.items ++ replicate l._done l.value
