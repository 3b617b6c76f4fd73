use Rattle.shape_prepare.specs.Worked.Begun.{worked_begun}
use Rattle.shape_prepare.proofs.worked.beginnings_meet_worked_cases.Goals as goal

pub returns : goal.returns
returns c = worked_begun
