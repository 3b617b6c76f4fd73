use Rattle.syllables.specs.Worked.Khmer.{worked_khmer}
use Rattle.syllables.proofs.worked.khmer_meets_worked_cases.Goals as goal

pub returns : goal.returns
returns c = worked_khmer
