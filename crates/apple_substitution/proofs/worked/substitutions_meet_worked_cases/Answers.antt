use Rattle.apple_substitution.specs.Worked.Substituting.{worked_substitutions}
use Rattle.apple_substitution.proofs.worked.substitutions_meet_worked_cases.Goals as goal

pub returns : goal.returns
returns c = worked_substitutions
