use Rattle.shape_font.specs.Worked.Sizes.{worked_sizes}
use Rattle.shape_font.proofs.worked.sizes_meet_worked_cases.Goals as goal

pub returns : goal.returns
returns c = worked_sizes
