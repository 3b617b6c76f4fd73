use Rattle.shape_items.specs.Worked.Marking.{tatweel_worked}
use Rattle.shape_items.proofs.worked.tatweel_meets_worked_cases.Goals as goal

pub returns : goal.returns
returns c = tatweel_worked
