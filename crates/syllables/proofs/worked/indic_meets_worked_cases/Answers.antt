use Rattle.syllables.specs.Worked.Indic.{worked_indic}
use Rattle.syllables.proofs.worked.indic_meets_worked_cases.Goals as goal

pub returns : goal.returns
returns c = worked_indic
