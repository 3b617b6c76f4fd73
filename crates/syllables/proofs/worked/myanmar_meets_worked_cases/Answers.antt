use Rattle.syllables.specs.Worked.Myanmar.{worked_myanmar}
use Rattle.syllables.proofs.worked.myanmar_meets_worked_cases.Goals as goal

pub returns : goal.returns
returns c = worked_myanmar
