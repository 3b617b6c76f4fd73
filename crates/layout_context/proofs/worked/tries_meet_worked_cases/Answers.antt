use Rattle.layout_context.specs.Worked.Tries.{worked_tries}
use Rattle.layout_context.proofs.worked.tries_meet_worked_cases.Goals as goal

pub returns : goal.returns
returns c = worked_tries
