use Rattle.layout_positions.specs.Worked.Known.{worked_known}
use Rattle.layout_positions.proofs.worked.known_marks_meet_worked_cases.Goals as goal

pub returns : goal.returns
returns c = worked_known
