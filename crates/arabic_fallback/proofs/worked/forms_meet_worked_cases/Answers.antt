use Rattle.arabic_fallback.specs.Worked.Forms.{worked_forms}
use Rattle.arabic_fallback.proofs.worked.forms_meet_worked_cases.Goals as goal

pub returns : goal.returns
returns c = worked_forms
