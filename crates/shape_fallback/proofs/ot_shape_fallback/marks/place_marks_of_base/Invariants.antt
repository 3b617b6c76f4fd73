use Rattle.std.proofs.Common.{◌≡◌, length}
use Rattle.shape_fallback.specs.Marks.{marks_placed}
use Rattle.shape_fallback.specs.Positions.{with_positions}
use Rattle.shape_fallback.proofs.ot_shape_fallback.marks.place_marks_of_base.Given as goal

abbrev pub invariant-loop-i : goal.invariant-loop-i
invariant-loop-i g l = record {
  as_many : length l.buffer.items ≡ length l.fn.buffer.items;
  rest : with_positions (marks_placed (g.F.hb_font_t.face l.face) l.base l.step.state) l.i l.to l.buffer
      ≡ with_positions (marks_placed (g.F.hb_font_t.face l.face) l.base l.fn.first) l.from l.to l.fn.buffer;
}
