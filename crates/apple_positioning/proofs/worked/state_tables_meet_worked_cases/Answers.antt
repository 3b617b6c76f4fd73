use Rattle.apple_positioning.specs.Worked.Driving.{worked_attaching, worked_crossing, worked_stacking}
use Rattle.apple_positioning.proofs.worked.state_tables_meet_worked_cases.Goals as goal

pub returns-clause-stacking : goal.returns-clause-stacking
returns-clause-stacking c = worked_stacking

pub returns-clause-crossing : goal.returns-clause-crossing
returns-clause-crossing c = worked_crossing

pub returns-clause-attaching : goal.returns-clause-attaching
returns-clause-attaching c = worked_attaching
