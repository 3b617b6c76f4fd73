use Rattle.std.proofs.Common.{◌≡◌}
use Rattle.glyph_variations.specs.Times.{times}
use Rattle.shape_font.specs.PointsAt as points
use Rattle.shape_font.proofs.face.FontFace.metrics_glyph.Given as goal

abbrev pub invariant-loop-i : goal.invariant-loop-i
invariant-loop-i l = l.there ≡ times (points.metrics_step l.fn.self) l._i l.glyph
