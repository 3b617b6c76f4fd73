use Rattle.std.proofs.Common.{◌≡◌, length}
use Rattle.shape_buffer.specs.PositionWalks.{positions_over}
use Rattle.shape_fallback.specs.Marks.{zeroed}
use Rattle.shape_fallback.specs.Positions.{with_positions}
use Rattle.shape_fallback.proofs.ot_shape_fallback.marks.zero_marks.Given as goal

abbrev pub invariant-loop-i : goal.invariant-loop-i
invariant-loop-i l = record {
  as_many : length l.buffer.items ≡ length l.fn.buffer.items;
  rest : with_positions (positions_over (zeroed l.adjust)) l.i l.to l.buffer
      ≡ with_positions (positions_over (zeroed l.adjust)) l.from l.to l.fn.buffer;
}
