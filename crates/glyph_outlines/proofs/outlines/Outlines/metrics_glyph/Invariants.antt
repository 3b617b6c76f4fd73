use Rattle.std.proofs.Common.{◌≡◌}
use Rattle.glyph_variations.specs.Times.{times}
use Rattle.glyph_outlines.specs.Lefts.{metrics_step}
use Rattle.glyph_outlines.proofs.outlines.Outlines.metrics_glyph.Given as goal

abbrev pub invariant-loop-i : goal.invariant-loop-i
invariant-loop-i l = l.there ≡ times (metrics_step l.fn.self) l._i l.glyph
