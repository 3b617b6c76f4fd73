use Rattle.layout_positions.specs.Worked.Sizes.{worked_sizes}
use Rattle.layout_positions.proofs.worked.sizes_meet_worked_cases.Goals as goal

pub returns : goal.returns
returns c = worked_sizes
