use Rattle.shape_users.specs.Worked.Stages.{worked_stages}
use Rattle.shape_users.proofs.stages.stages_meet_worked_cases.Goals as goal

pub returns : goal.returns
returns c = worked_stages
