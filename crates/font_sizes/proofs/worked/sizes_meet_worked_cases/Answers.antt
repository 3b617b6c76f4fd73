use Rattle.font_sizes.specs.Worked.{worked_factors, worked_numbers, worked_scales}
use Rattle.font_sizes.proofs.worked.sizes_meet_worked_cases.Goals as goal

pub returns-clause-factors : goal.returns-clause-factors
returns-clause-factors c = worked_factors

pub returns-clause-numbers : goal.returns-clause-numbers
returns-clause-numbers c = worked_numbers

pub returns-clause-scales : goal.returns-clause-scales
returns-clause-scales c = worked_scales
