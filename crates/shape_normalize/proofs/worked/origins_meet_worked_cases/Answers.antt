use Rattle.shape_normalize.proofs.Places.WorkedOriginLemmas.{origins_worked}
use Rattle.shape_normalize.proofs.worked.origins_meet_worked_cases.Goals as goal

pub returns : goal.returns
returns c = origins_worked
