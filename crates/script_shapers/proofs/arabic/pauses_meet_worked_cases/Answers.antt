use Rattle.script_shapers.specs.Worked.ArabicPauses.{worked_pauses}
use Rattle.script_shapers.proofs.arabic.pauses_meet_worked_cases.Goals as goal

pub returns : goal.returns
returns c = worked_pauses
