use Rattle.layout_matching.specs.Worked.Glance.{worked_glance}
use Rattle.layout_matching.proofs.worked.glances_meet_worked_cases.Goals as goal

pub returns : goal.returns
returns c = worked_glance
