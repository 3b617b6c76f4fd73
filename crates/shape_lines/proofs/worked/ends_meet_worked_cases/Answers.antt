use Rattle.shape_lines.specs.Worked.Spots.{worked_spots}
use Rattle.shape_lines.proofs.EndRows.{worked_ends}
use Rattle.shape_lines.proofs.worked.ends_meet_worked_cases.Goals as goal

pub returns-clause-spots : goal.returns-clause-spots
returns-clause-spots c = worked_spots

pub returns-clause-ends : goal.returns-clause-ends
returns-clause-ends c = worked_ends
