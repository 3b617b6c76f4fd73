use Rattle.line_carets.specs.Worked.{worked_settled}
use Rattle.line_carets.proofs.worked.carets_meet_worked_cases.Goals as goal

pub returns : goal.returns
returns c = worked_settled
