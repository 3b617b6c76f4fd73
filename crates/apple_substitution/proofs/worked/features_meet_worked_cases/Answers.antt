use Rattle.apple_substitution.specs.Worked.Features.{worked_feat, worked_registry}
use Rattle.apple_substitution.proofs.worked.features_meet_worked_cases.Goals as goal

pub returns-clause-feat : goal.returns-clause-feat
returns-clause-feat c = worked_feat

pub returns-clause-registry : goal.returns-clause-registry
returns-clause-registry c = worked_registry
