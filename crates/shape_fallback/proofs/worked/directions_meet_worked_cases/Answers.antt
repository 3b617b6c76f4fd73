use Rattle.shape_fallback.specs.Worked.Directions.{worked_directions}
use Rattle.shape_fallback.proofs.worked.directions_meet_worked_cases.Goals as goal

pub returns : goal.returns
returns c = worked_directions
