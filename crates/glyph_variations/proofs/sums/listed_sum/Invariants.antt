use Rattle.std.proofs.Common.{◌≡◌, ◌≤◌, ◌+◌, ◌*◌}
use Rattle.glyph_variations.specs.Sums as sums
use Rattle.glyph_variations.specs.Times.{times}
use Rattle.glyph_variations.proofs.sums.listed_sum.Given as goal

abbrev pub invariant-loop-i : goal.invariant-loop-i
invariant-loop-i l = record {
  read : l.reading ≡ times (sums.read_step l.bytes l.point l.scalar) l._i (sums.begun l.points.at l.at);
  numbers : l.reading.numbers.at ≤ l.points.at + 3 * l._i;
  small : l.reading.numbers.number ≤ 65536 * l._i;
  deltas : l.reading.deltas.at ≤ l.at + 5 * l._i;
}
