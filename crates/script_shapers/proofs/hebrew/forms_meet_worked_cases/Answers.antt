use Rattle.script_shapers.specs.Worked.HebrewForms.{worked_forms}
use Rattle.script_shapers.proofs.hebrew.forms_meet_worked_cases.Goals as goal

pub returns : goal.returns
returns c = worked_forms
