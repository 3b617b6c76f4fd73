use Rattle.layout_matching.specs.Worked.Tries.{worked_tries}
use Rattle.layout_matching.proofs.worked.tries_meet_worked_cases.Goals as goal

pub returns : goal.returns
returns c = worked_tries
