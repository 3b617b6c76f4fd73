use Rattle.universal_shaper.specs.Worked.Pauses.{worked_pauses}
use Rattle.universal_shaper.proofs.worked.pauses_meet_worked_cases.Goals as goal

pub returns : goal.returns
returns c = worked_pauses
