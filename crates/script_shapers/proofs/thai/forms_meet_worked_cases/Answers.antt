use Rattle.script_shapers.specs.Worked.ThaiForms.{worked_thai_forms}
use Rattle.script_shapers.proofs.thai.forms_meet_worked_cases.Goals as goal

pub returns : goal.returns
returns c = worked_thai_forms
