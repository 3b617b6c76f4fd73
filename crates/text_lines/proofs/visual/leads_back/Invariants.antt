use Rattle.std.proofs.Common.{◌↔◌, drop}
use Rattle.text_lines.specs.Lines.{Lead, LeadsBack}
use Rattle.text_lines.proofs.visual.leads_back.Given as goal

abbrev pub invariant-loop-place : goal.invariant-loop-place
invariant-loop-place l = Lead l.backward l.start l.end (drop l.place l.run.glyphs.items) ↔ LeadsBack l.run
