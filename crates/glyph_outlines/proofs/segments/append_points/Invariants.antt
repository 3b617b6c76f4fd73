use Rattle.std.proofs.Common.{◌≡◌, ◌++◌, drop}
use Rattle.std.specs.Prelude.{None}
use Rattle.glyph_outlines.specs.Contours.{led}
use Rattle.glyph_outlines.proofs.segments.append_points.Given as goal

-- what was drawn, and what is still to be drawn, is the whole
abbrev pub invariant-loop-point : goal.invariant-loop-point
invariant-loop-point l = l.segments.items ++ led l.start l.control (drop l.point-index l.points)
    ≡ l.initial.segments.items ++ led l.start None l.points
