use Rattle.letter_joining.specs.Worked.JoinedText.{worked_forms}
use Rattle.letter_joining.proofs.worked.forms_meet_worked_cases.Goals as goal

pub returns : goal.returns
returns c = worked_forms
