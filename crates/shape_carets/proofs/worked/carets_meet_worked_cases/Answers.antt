use Rattle.shape_carets.specs.Worked.Carets.{worked_carets, worked_stops}
use Rattle.shape_carets.proofs.worked.carets_meet_worked_cases.Goals as goal

pub returns-clause-carets : goal.returns-clause-carets
returns-clause-carets c = worked_carets

pub returns-clause-stops : goal.returns-clause-stops
returns-clause-stops c = worked_stops
