use Rattle.layout_substitution.specs.Worked.{worked_mergings, worked_ligating}
use Rattle.layout_substitution.proofs.worked.ligating_meets_worked_cases.Goals as goal

pub returns-clause-mergings : goal.returns-clause-mergings
returns-clause-mergings c = worked_mergings

pub returns-clause-ligating : goal.returns-clause-ligating
returns-clause-ligating c = worked_ligating
