use Rattle.layout_substitution.specs.Worked.Lists.{worked_lists}
use Rattle.layout_substitution.proofs.worked.lists_meet_worked_cases.Goals as goal

pub returns : goal.returns
returns c = worked_lists
