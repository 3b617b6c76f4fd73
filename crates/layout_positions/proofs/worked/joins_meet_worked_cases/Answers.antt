use Rattle.layout_positions.specs.Worked.Forest.{worked_forest}
use Rattle.layout_positions.specs.Worked.Stage.{worked_stage}
use Rattle.layout_positions.proofs.worked.joins_meet_worked_cases.Goals as goal

pub returns : goal.returns
returns c = record { forest = worked_forest; stage = worked_stage }
