use Rattle.layout_matching.specs.Worked.{worked_types}
use Rattle.layout_matching.proofs.worked.types_meet_worked_cases.Goals as goal

pub returns : goal.returns
returns c = worked_types
