use Rattle.arabic_stretching.specs.Worked.Stretching.{worked_stretching}
use Rattle.arabic_stretching.proofs.worked.stretching_meets_worked_cases.Goals as goal

pub returns : goal.returns
returns c = worked_stretching
