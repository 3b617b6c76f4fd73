use Rattle.shape_normalize.specs.Worked.One.{round_one_worked}
use Rattle.shape_normalize.proofs.worked.round_one_meets_worked_cases.Goals as goal

pub returns : goal.returns
returns c = round_one_worked
