use Rattle.std.proofs.Common.{◌≡◌, ◌++◌, drop}
use Rattle.std.specs.Prelude.{map}
use Rattle.glyph_outlines.specs.Frames.{placed_at}
use Rattle.glyph_outlines.proofs.parts.append_varied.Given as goal

-- what was placed, and what is still to be placed, is the whole
abbrev pub invariant-loop-point : goal.invariant-loop-point
invariant-loop-point l = l.points.items ++ map (placed_at l.frame) (drop l.point-index l.own) ≡ l.initial.points.items ++ map (placed_at l.frame) l.own
