use Rattle.std.proofs.Common.{◌≡◌}
use Rattle.glyph_variations.specs.Glyph.{stored}
use Rattle.glyph_variations.specs.Tuples as tuples
use Rattle.glyph_variations.proofs.tuples.product.Given as goal

abbrev pub invariant-loop-axis : goal.invariant-loop-axis
invariant-loop-axis l = l.product ≡ tuples.product_of (tuples.axis_part (stored l.glyph) l.at) l.axis
