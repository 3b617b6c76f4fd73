use Rattle.layout_substitution.specs.Worked.Made.{worked_numbers}
use Rattle.layout_substitution.proofs.worked.numbers_meet_worked_cases.Goals as goal

pub returns : goal.returns
returns c = worked_numbers
