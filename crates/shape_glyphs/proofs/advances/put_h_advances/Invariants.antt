use Rattle.std.proofs.Common.{◌≡◌, ◌++◌, true, take, drop, length}
use Rattle.shape_buffer.specs.PositionWalks.{positions_over}
use Rattle.shape_glyphs.specs.Advances.{advanced_position}
use Rattle.shape_glyphs.proofs.advances.put_h_advances.Given as goal

abbrev pub invariant-loop-i : goal.invariant-loop-i
invariant-loop-i g l = record {
  same_length : length l.buffer.items ≡ length l.fn.buffer.items;
  as_many_now : length l.buffer.positions ≡ length l.fn.buffer.items;
  as_many : length l.fn.buffer.positions ≡ length l.fn.buffer.items;
  updated : l.buffer ≡ record l.fn.buffer {
    positions = positions_over (advanced_position (g.F.hb_font_t.face l.face) true) (take l.i l.fn.buffer.items) (take l.i l.fn.buffer.positions) ++ drop l.i l.fn.buffer.positions;
  };
}
