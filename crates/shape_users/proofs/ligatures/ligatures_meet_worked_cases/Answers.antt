use Rattle.shape_users.specs.Worked.Ligatures.{worked_ligatures}
use Rattle.shape_users.proofs.ligatures.ligatures_meet_worked_cases.Goals as goal

pub returns : goal.returns
returns c = worked_ligatures
