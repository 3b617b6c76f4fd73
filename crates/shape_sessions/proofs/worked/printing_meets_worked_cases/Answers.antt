use Rattle.shape_sessions.specs.Worked.Printing.{worked_printing}
use Rattle.shape_sessions.proofs.worked.printing_meets_worked_cases.Goals as goal

pub returns : goal.returns
returns c = worked_printing
