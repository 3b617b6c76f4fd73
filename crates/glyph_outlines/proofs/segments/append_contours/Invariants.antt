use Rattle.std.proofs.Common.{◌≡◌, ◌++◌, [], drop}
use Rattle.glyph_outlines.specs.Contours.{outline}
use Rattle.glyph_outlines.proofs.segments.append_contours.Given as goal

-- what was drawn, and what is still to be drawn, is the whole
abbrev pub invariant-loop-point : goal.invariant-loop-point
invariant-loop-point l = l.segments.items ++ outline l.contour.items (drop l.point-index l.points) ≡ l.initial.segments.items ++ outline [] l.points
