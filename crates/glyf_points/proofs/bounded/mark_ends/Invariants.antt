use Rattle.std.proofs.Common.{◌≡◌}
use Rattle.glyf_points.specs.Simple.{ends_marked}
use Rattle.glyf_points.proofs.bounded.mark_ends.Given as goal

abbrev pub invariant-loop-i : goal.invariant-loop-i
invariant-loop-i l = l.points ≡ ends_marked l.glyph l.i l.initial.points
