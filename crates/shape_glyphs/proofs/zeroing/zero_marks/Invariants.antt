use Rattle.std.proofs.Common.{◌≡◌, ◌++◌, take, drop, length}
use Rattle.shape_buffer.specs.PositionWalks.{positions_over}
use Rattle.shape_glyphs.specs.Zeroing.{zeroed_mark}
use Rattle.shape_glyphs.proofs.zeroing.zero_marks.Given as goal

abbrev pub invariant-loop-i : goal.invariant-loop-i
invariant-loop-i l = record {
  same_length : length l.buffer.items ≡ length l.fn.buffer.items;
  as_many_now : length l.buffer.positions ≡ length l.fn.buffer.items;
  as_many : length l.fn.buffer.positions ≡ length l.fn.buffer.items;
  updated : l.buffer ≡ record l.fn.buffer {
    positions = positions_over (zeroed_mark l.adjust) (take l.i l.fn.buffer.items) (take l.i l.fn.buffer.positions) ++ drop l.i l.fn.buffer.positions;
  };
}
