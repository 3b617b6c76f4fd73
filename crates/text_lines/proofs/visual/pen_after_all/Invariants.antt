use Rattle.std.proofs.Common.{◌≡◌, drop, pos}
use Rattle.text_lines.specs.Lines.{pen_after_runs}
use Rattle.text_lines.proofs.visual.pen_after_all.Given as goal

abbrev pub invariant-loop-place : goal.invariant-loop-place
invariant-loop-place l = pen_after_runs l.from l.pen (drop l.place l.runs) ≡ pen_after_runs l.from (pos 0) l.runs
