use Rattle.std.proofs.Common.{◌≡◌, ◌++◌, slice_range}
use Rattle.apple_substitution.proofs.edits.push_span.Given as goal

abbrev pub invariant-loop-i : goal.invariant-loop-i
invariant-loop-i l = l.items.items ≡ l.fn.items.items ++ slice_range l.buffer.items l.start l.i
