use Rattle.shape_buffer.proofs.Steps.Runs.{RunOutcome-then, Ran-made}
use Rattle.shape_glyphs.proofs.substitution.substitute_pre.Goals as goal

pub returns : goal.returns
returns g c =
    RunOutcome-then _ _ c.substitute.result (Ran-made c.requires c.recategorize_marks.ensures)
    (RunOutcome-then _ _ c.substitute.result c.setup_glyphs.ensures c.substitute.ensures)
