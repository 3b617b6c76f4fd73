use Rattle.shape_normalize.specs.Worked.Three.{round_three_worked}
use Rattle.shape_normalize.proofs.worked.round_three_meets_worked_cases.Goals as goal

pub returns : goal.returns
returns c = round_three_worked
