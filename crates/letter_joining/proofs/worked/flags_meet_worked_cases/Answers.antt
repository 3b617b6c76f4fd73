use Rattle.letter_joining.specs.Worked.JoinedText.{worked_flags}
use Rattle.letter_joining.proofs.worked.flags_meet_worked_cases.Goals as goal

pub returns : goal.returns
returns c = worked_flags
