use Rattle.shape_normalize.specs.Worked.Two.{round_two_worked}
use Rattle.shape_normalize.proofs.worked.round_two_meets_worked_cases.Goals as goal

pub returns : goal.returns
returns c = round_two_worked
