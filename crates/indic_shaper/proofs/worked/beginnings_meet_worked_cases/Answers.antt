use Rattle.indic_shaper.specs.Worked.Settling.{worked_beginnings}
use Rattle.indic_shaper.proofs.worked.beginnings_meet_worked_cases.Goals as goal

pub returns : goal.returns
returns c = worked_beginnings
