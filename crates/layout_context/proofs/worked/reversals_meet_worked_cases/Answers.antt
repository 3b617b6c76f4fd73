use Rattle.layout_context.specs.Worked.Reversals.{worked_reversals}
use Rattle.layout_context.proofs.worked.reversals_meet_worked_cases.Goals as goal

pub returns : goal.returns
returns c = worked_reversals
