use Rattle.std.proofs.Common.{◌≡◌, ◌≤◌}
use Rattle.glyph_variations.specs.Inferred as inferred
use Rattle.glyph_variations.specs.Times.{steps}
use Rattle.glyph_variations.proofs.inferred.spread_all.Given as goal

abbrev pub invariant-loop-i : goal.invariant-loop-i
invariant-loop-i l = record {
  order : l.start ≤ l.i;
  moved : inferred.contours l.start l.moving
      ≡ steps (inferred.contour_step l.points l.vertical l.listed) l.i (inferred.contours 0 l.initial.moving);
}
