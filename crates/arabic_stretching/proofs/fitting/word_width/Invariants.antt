use Rattle.std.proofs.Common.{◌≡◌, drop, fold}
use Rattle.arabic_stretching.specs.Fitting.{with_advance, word_width}
use Rattle.arabic_stretching.proofs.fitting.word_width.Given as goal

abbrev pub invariant-loop-glyph : goal.invariant-loop-glyph
invariant-loop-glyph l = record { made : fold with_advance l.width (drop l.glyph-index l.word) ≡ word_width l.word }
