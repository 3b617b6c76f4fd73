use Rattle.layout_substitution.specs.Worked.{worked_beginnings}
use Rattle.layout_substitution.proofs.worked.beginnings_meet_worked_cases.Goals as goal

pub returns : goal.returns
returns c = worked_beginnings
