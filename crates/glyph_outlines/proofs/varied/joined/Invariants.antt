use Rattle.std.proofs.Common.{◌≡◌, []}
use Rattle.glyph_variations.specs.Times.{steps}
use Rattle.glyph_outlines.specs.Varied.{varied_step}
use Rattle.glyph_outlines.proofs.varied.joined.Given as goal

abbrev pub invariant-loop-i : goal.invariant-loop-i
invariant-loop-i l = l.varied.items ≡ steps (varied_step l.points l.across l.upwards) l.i []
