use Rattle.std.proofs.Common.{◌≡◌, ◌+◌, ◌-◌}
use Rattle.glyph_variations.specs.Inferred as inferred
use Rattle.glyph_variations.proofs.inferred.first_touched.Given as goal

abbrev pub invariant-loop-k : goal.invariant-loop-k
invariant-loop-k l = inferred.first_touched l.listed (l.start + l.k) (l.count - l.k) ≡ inferred.first_touched l.listed l.start l.count
