use Rattle.apple_substitution.specs.Worked.Replacing.{worked_replacing}
use Rattle.apple_substitution.proofs.worked.replacing_meets_worked_cases.Goals as goal

pub returns : goal.returns
returns c = worked_replacing
