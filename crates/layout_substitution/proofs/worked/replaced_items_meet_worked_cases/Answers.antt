use Rattle.layout_substitution.specs.Worked.Made.{worked_made}
use Rattle.layout_substitution.proofs.worked.replaced_items_meet_worked_cases.Goals as goal

pub returns : goal.returns
returns c = worked_made
