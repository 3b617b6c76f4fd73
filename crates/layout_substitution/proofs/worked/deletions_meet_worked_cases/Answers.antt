use Rattle.layout_substitution.specs.Worked.{worked_deletions}
use Rattle.layout_substitution.proofs.worked.deletions_meet_worked_cases.Goals as goal

pub returns : goal.returns
returns c = worked_deletions
