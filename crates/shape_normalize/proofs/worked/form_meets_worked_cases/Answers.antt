use Rattle.shape_normalize.proofs.FormRows.{form_worked}
use Rattle.shape_normalize.proofs.worked.form_meets_worked_cases.Goals as goal

pub returns : goal.returns
returns c = form_worked
