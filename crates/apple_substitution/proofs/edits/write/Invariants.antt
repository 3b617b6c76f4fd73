use Rattle.std.proofs.Common.{◌≡◌, ◌+◌, drop, length}
use Rattle.apple_substitution.specs.Edits.{written}
use Rattle.apple_substitution.proofs.edits.write.Given as goal

abbrev pub invariant-loop-i : goal.invariant-loop-i
invariant-loop-i l = record {
  made : written (l.at + l.i) (drop l.i l.items) l.buffer ≡ written l.at l.items l.fn.buffer;
  as_many : length l.buffer.items ≡ length l.fn.buffer.items;
}
