use Rattle.indic_shaper.specs.Worked.Settling.{worked_matras}
use Rattle.indic_shaper.proofs.worked.matras_meet_worked_cases.Goals as goal

pub returns : goal.returns
returns c = worked_matras
