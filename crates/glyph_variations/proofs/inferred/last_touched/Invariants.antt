use Rattle.std.proofs.Common.{◌≡◌, ◌<◌, ◌+◌}
use Rattle.std.specs.Option.{IfSome}
use Rattle.glyph_variations.specs.Inferred as inferred
use Rattle.glyph_variations.proofs.inferred.last_touched.Given as goal

abbrev pub invariant-loop-k : goal.invariant-loop-k
invariant-loop-k l = record {
  found : l.found ≡ inferred.last_touched l.listed l.start l.k;
  near : IfSome l.found (λ i. i < l.start + l.count);
}
