use Rattle.glyph_variations.specs.Laws.{infers_deltas}
use Rattle.glyph_variations.proofs.laws.deltas_are_inferred.Goals as goal

pub returns : goal.returns
returns c = infers_deltas
