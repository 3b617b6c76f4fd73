use Rattle.std.proofs.Common.{◌≡◌, length}
use Rattle.font_variations.specs.Deltas.{AreScalars}
use Rattle.font_variations.proofs.deltas.region_scalars.Given as goal

abbrev pub invariant-loop-region : goal.invariant-loop-region
invariant-loop-region l = record {
  so_far : length l.scalars.items ≡ l.region;
  ok : AreScalars l.store l.coordinates l.scalars.items;
}
