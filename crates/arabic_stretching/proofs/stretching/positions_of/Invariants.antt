use Rattle.std.proofs.Common.{◌≡◌, ◌++◌, drop, map}
use Rattle.arabic_stretching.specs.Stretching.{glyph_position}
use Rattle.arabic_stretching.proofs.stretching.positions_of.Given as goal

abbrev pub invariant-loop-glyph : goal.invariant-loop-glyph
invariant-loop-glyph l = record { left : l.out.items ++ map glyph_position (drop l.glyph-index l.glyphs) ≡ map glyph_position l.glyphs }
