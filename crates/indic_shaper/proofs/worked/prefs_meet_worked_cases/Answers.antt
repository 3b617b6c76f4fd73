use Rattle.indic_shaper.specs.Worked.Settling.{worked_prefs}
use Rattle.indic_shaper.proofs.worked.prefs_meet_worked_cases.Goals as goal

pub returns : goal.returns
returns c = worked_prefs
