use Rattle.indic_shaper.specs.Worked.Settling.{worked_rephs}
use Rattle.indic_shaper.proofs.worked.rephs_meet_worked_cases.Goals as goal

pub returns : goal.returns
returns c = worked_rephs
