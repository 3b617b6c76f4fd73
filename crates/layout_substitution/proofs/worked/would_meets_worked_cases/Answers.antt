use Rattle.layout_substitution.specs.Worked.Would.{worked_would}
use Rattle.layout_substitution.proofs.worked.would_meets_worked_cases.Goals as goal

pub returns : goal.returns
returns c = worked_would
