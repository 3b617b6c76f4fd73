use Rattle.syllables.specs.Worked.Universal.{worked_universal}
use Rattle.syllables.proofs.worked.universal_meets_worked_cases.Goals as goal

pub returns : goal.returns
returns c = worked_universal
