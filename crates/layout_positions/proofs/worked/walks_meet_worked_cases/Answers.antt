use Rattle.layout_positions.specs.Worked.Walk.{worked_bounds, worked_walk}
use Rattle.layout_positions.proofs.worked.walks_meet_worked_cases.Goals as goal

pub returns : goal.returns
returns c = record { bounds = worked_bounds; walk = worked_walk }
