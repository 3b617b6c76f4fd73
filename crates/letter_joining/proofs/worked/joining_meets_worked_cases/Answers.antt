use Rattle.letter_joining.specs.Worked.Joining.{worked_joining}
use Rattle.letter_joining.proofs.worked.joining_meets_worked_cases.Goals as goal

pub returns : goal.returns
returns c = worked_joining
