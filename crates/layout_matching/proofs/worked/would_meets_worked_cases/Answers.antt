use Rattle.layout_matching.specs.Worked.Would.{worked_would}
use Rattle.layout_matching.proofs.worked.would_meets_worked_cases.Goals as goal

pub returns : goal.returns
returns c = worked_would
