use Rattle.shape_carets.specs.Worked.Selections.{worked_selections}
use Rattle.shape_carets.proofs.worked.selections_meet_worked_cases.Goals as goal

pub returns : goal.returns
returns c = worked_selections
