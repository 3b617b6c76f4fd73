use Rattle.shape_glyphs.specs.Worked.Phases.{worked_phases}
use Rattle.shape_glyphs.specs.Worked.Steps.{worked_steps}
use Rattle.shape_glyphs.proofs.worked.steps_meet_worked_cases.Goals as goal

pub returns : goal.returns
returns c = record { steps = worked_steps; phases = worked_phases }
