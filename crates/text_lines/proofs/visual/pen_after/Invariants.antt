use Rattle.std.proofs.Common.{◌≡◌, drop}
use Rattle.text_lines.specs.Lines.{pen_after}
use Rattle.text_lines.proofs.visual.pen_after.Given as goal

abbrev pub invariant-loop-place : goal.invariant-loop-place
invariant-loop-place l = pen_after l.from l.pen (drop l.place l.glyphs) ≡ pen_after l.from l.x l.glyphs
