use Rattle.shape_users.specs.Worked.Signs.{worked_signs}
use Rattle.shape_users.proofs.signs.signs_meet_worked_cases.Goals as goal

pub returns : goal.returns
returns c = worked_signs
