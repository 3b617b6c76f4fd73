use Rattle.layout_matching.specs.Worked.Work.{worked_work}
use Rattle.layout_matching.proofs.worked.work_meets_worked_cases.Goals as goal

pub returns : goal.returns
returns c = worked_work
