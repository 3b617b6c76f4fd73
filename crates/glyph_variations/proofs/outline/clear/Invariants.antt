use Rattle.std.proofs.Common.{◌≡◌, length, take}
use Rattle.std.specs.Prelude.{replicate}
use Rattle.glyph_variations.specs.Inferred.{untouched}
use Rattle.glyph_variations.proofs.outline.clear.Given as goal

abbrev pub invariant-loop-k : goal.invariant-loop-k
invariant-loop-k l = record {
  same : length l.listed ≡ length l.initial.listed;
  filled : take l.k l.listed ≡ replicate l.k untouched;
}
