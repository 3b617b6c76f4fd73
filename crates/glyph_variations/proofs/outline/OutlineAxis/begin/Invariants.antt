use Rattle.std.proofs.Common.{◌≡◌, length, take}
use Rattle.std.specs.Prelude.{map}
use Rattle.glyph_variations.specs.Outline as outline
use Rattle.glyph_variations.proofs.outline.OutlineAxis.begin.Given as goal

abbrev pub invariant-loop-k : goal.invariant-loop-k
invariant-loop-k l = record {
  same : length l.moving ≡ length l.initial.moving;
  filled : take l.k l.moving ≡ map (outline.begun_point l.self.vertical) (take l.k l.self.points.now);
}
