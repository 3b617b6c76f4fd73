use Rattle.std.proofs.Common.{◌≡◌, ◌≤◌, ◌+◌, ◌*◌}
use Rattle.glyph_variations.specs.Outline as outline
use Rattle.glyph_variations.specs.Times.{steps}
use Rattle.glyph_variations.proofs.outline.add_all.Given as goal

abbrev pub invariant-loop-k : goal.invariant-loop-k
invariant-loop-k l = record {
  added : outline.adding l.deltas l.moving ≡ steps (outline.add_step l.bytes l.scalar) l.k (outline.adding_begun l.at l.initial.moving);
  near : l.deltas.at ≤ l.at + 5 * l.k;
}
