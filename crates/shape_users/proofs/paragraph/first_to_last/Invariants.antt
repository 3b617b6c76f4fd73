use Rattle.shape_users.specs.Paragraph.{FirstToLast}
use Rattle.shape_users.proofs.paragraph.first_to_last.Given as goal

abbrev pub invariant-loop-place : goal.invariant-loop-place
invariant-loop-place l = FirstToLast l.glyphs l.text.start l.text.end l.place l.start l.end
