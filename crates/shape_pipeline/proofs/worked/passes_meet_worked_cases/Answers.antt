use Rattle.shape_pipeline.proofs.PassRows.{worked_passes}
use Rattle.shape_pipeline.proofs.worked.passes_meet_worked_cases.Goals as goal

pub returns : goal.returns
returns c = worked_passes
