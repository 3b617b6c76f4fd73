use Rattle.layout_matching.specs.Worked.WholeRules.{worked_wholes}
use Rattle.layout_matching.proofs.worked.stored_rules_meet_worked_cases.Goals as goal

pub returns : goal.returns
returns c = worked_wholes
