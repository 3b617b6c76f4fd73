use Rattle.std.proofs.Common.{◌≡◌, drop}
use Rattle.glyph_outlines.specs.Contours.{last_of}
use Rattle.glyph_outlines.proofs.segments.last.Given as goal

abbrev pub invariant-loop-point : goal.invariant-loop-point
invariant-loop-point l = last_of l.last (drop l.point-index l.points) ≡ last_of l.fn.first l.points
