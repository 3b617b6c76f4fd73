use Rattle.shape_fallback.specs.Worked.Ccc.{worked_cccs}
use Rattle.shape_fallback.proofs.worked.fallback_ccc_meet_worked_cases.Goals as goal

pub returns : goal.returns
returns c = worked_cccs
