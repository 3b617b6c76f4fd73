use Rattle.shape_items.specs.Worked.Merging.{merging_worked}
use Rattle.shape_items.proofs.worked.merging_meets_worked_cases.Goals as goal

pub returns : goal.returns
returns c = merging_worked
