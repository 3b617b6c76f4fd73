use Rattle.universal_shaper.specs.Worked.Forms.{worked_forms_of_syllables}
use Rattle.universal_shaper.proofs.worked.forms_meet_worked_cases.Goals as goal

pub returns : goal.returns
returns c = worked_forms_of_syllables
