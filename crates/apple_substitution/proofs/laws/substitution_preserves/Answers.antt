use Rattle.apple_substitution.specs.Substitution.{language_of, source_for, substituted}
use Rattle.apple_substitution.proofs.MorxPreservation.{morx-flags, morx-order, morx-preserves}
use Rattle.apple_substitution.proofs.laws.substitution_preserves.Goals as goal

pub returns-clause-clusters : goal.returns-clause-clusters
unfolding substituted
returns-clause-clusters c = λ f features b. morx-order (source_for f features (language_of b)) b

pub returns-clause-flags : goal.returns-clause-flags
unfolding substituted
returns-clause-flags c = λ f features b. morx-flags (source_for f features (language_of b)) b

pub returns-clause-limit : goal.returns-clause-limit
unfolding substituted
returns-clause-limit c = λ f features b. (morx-preserves (source_for f features (language_of b)) b).limit

pub returns-clause-left : goal.returns-clause-left
unfolding substituted
returns-clause-left c = λ f features b. (morx-preserves (source_for f features (language_of b)) b).left
