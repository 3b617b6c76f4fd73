use Rattle.std.proofs.Common.{◌≡◌}
use Rattle.glyph_variations.specs.Inferred as inferred
use Rattle.glyph_variations.specs.Times.{steps}
use Rattle.glyph_variations.proofs.inferred.spread.Given as goal

abbrev pub invariant-loop-k : goal.invariant-loop-k
invariant-loop-k l = record {
  before : l.before ≡ inferred.before l.listed l.contour l.k;
  after : l.after ≡ inferred.after l.listed l.contour l.k;
  moved : l.moving ≡ steps (inferred.spread_step l.points l.vertical l.contour l.listed) l.k l.initial.moving;
}
