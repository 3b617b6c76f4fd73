use Rattle.layout_matching.specs.Worked.Passing.{worked_passing}
use Rattle.layout_matching.proofs.worked.passing_meets_worked_cases.Goals as goal

pub returns : goal.returns
returns c = worked_passing
