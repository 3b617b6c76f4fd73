use Rattle.layout_matching.specs.Worked.Sought.{worked_sought}
use Rattle.layout_matching.proofs.worked.seeking_meets_worked_cases.Goals as goal

pub returns : goal.returns
returns c = worked_sought
