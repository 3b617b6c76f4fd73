use Rattle.std.proofs.Common.{◌≡◌, ◌≤◌, ◌+◌, ◌*◌, length}
use Rattle.glyph_variations.specs.Glyph.{stored}
use Rattle.glyph_variations.specs.Outline as outline
use Rattle.glyph_variations.specs.Times.{times}
use Rattle.glyph_variations.proofs.outline.OutlineAxis.move_points.Given as goal

abbrev pub invariant-loop-i : goal.invariant-loop-i
invariant-loop-i l = record {
  moved : outline.walked l.walk l.moving
      ≡ times (outline.tuple_step (stored l.glyph) l.self.points.now l.self.vertical) l._i
      (outline.outline_begun (stored l.glyph) l.self.points.now l.self.vertical l.left);
  same : length l.listed ≡ length l.initial.listed;
  header : l.walk.header ≤ 4 + 524288 * l._i;
  place : l.walk.place ≤ 262144 + 65535 * l._i;
}
