use Rattle.layout_positions.specs.Worked.Tries.{worked_tries}
use Rattle.layout_positions.proofs.worked.tries_meet_worked_cases.Goals as goal

pub returns : goal.returns
returns c = worked_tries
