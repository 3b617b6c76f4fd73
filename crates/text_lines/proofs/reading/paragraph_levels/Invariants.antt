use Rattle.std.proofs.Common.{◌≡◌, ◌++◌, drop}
use Rattle.text_lines.specs.Levels.{paragraph_levels}
use Rattle.text_lines.proofs.reading.paragraph_levels.Given as goal

abbrev pub invariant-loop-place : goal.invariant-loop-place
invariant-loop-place l = l.levels.items ++ paragraph_levels l.start (drop l.place l.paragraphs) ≡ paragraph_levels 0 l.paragraphs
