use Rattle.shape_users.specs.Worked.Capitals.{worked_capitals}
use Rattle.shape_users.proofs.capitals.capitals_meet_worked_cases.Goals as goal

pub returns : goal.returns
returns c = worked_capitals
