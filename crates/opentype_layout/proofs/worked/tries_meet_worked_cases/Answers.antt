use Rattle.opentype_layout.specs.Worked.Tries.{worked_tries}
use Rattle.opentype_layout.proofs.worked.tries_meet_worked_cases.Goals as goal

pub returns : goal.returns
returns c = worked_tries
