use Rattle.std.proofs.Common.{◌≡◌}
use Rattle.glyph_variations.specs.Outline as outline
use Rattle.glyph_variations.specs.Times.{steps}
use Rattle.glyph_variations.proofs.outline.flush.Given as goal

abbrev pub invariant-loop-k : goal.invariant-loop-k
invariant-loop-k l = l.moving ≡ steps (outline.flush_step l.listed) l.k l.initial.moving
