use Rattle.std.proofs.Common.{ℕ, ◌-◌, ◌++◌, List}
use Rattle.shape_items.specs.Spans.{AreSpansInOrder}
use Rattle.bench_runs.proofs.buffer.neighbours.Given as goal

-- whatever comes after the spans may begin where the next one does
abbrev pub invariant-loop-i : goal.invariant-loop-i
invariant-loop-i l =
    (later : List (ℕ × ℕ)) → AreSpansInOrder (l.i - 1) l.len later → AreSpansInOrder 0 l.len (l.spans.items ++ later)
