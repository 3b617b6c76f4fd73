use Rattle.khmer_shaper.specs.Worked.Syllables.{worked_syllables}
use Rattle.khmer_shaper.proofs.worked.syllables_meet_worked_cases.Goals as goal

pub returns : goal.returns
returns c = worked_syllables
