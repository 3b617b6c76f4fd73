use Rattle.layout_context.specs.Worked.Lookups.{worked_lookups}
use Rattle.layout_context.proofs.worked.lookups_meet_worked_cases.Goals as goal

pub returns : goal.returns
returns c = worked_lookups
