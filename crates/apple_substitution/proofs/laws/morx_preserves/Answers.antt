use Rattle.apple_substitution.proofs.MorxPreservation.{morx-flags, morx-order, morx-preserves}
use Rattle.apple_substitution.proofs.laws.morx_preserves.Goals as goal

pub returns-clause-clusters : goal.returns-clause-clusters
returns-clause-clusters c = morx-order

pub returns-clause-flags : goal.returns-clause-flags
returns-clause-flags c = morx-flags

pub returns-clause-limit : goal.returns-clause-limit
returns-clause-limit c = λ s b. (morx-preserves s b).limit

pub returns-clause-left : goal.returns-clause-left
returns-clause-left c = λ s b. (morx-preserves s b).left
