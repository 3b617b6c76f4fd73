use Rattle.arabic_fallback.proofs.PreservationLemmas.{fallback-order, fallback-flags}
use Rattle.arabic_fallback.proofs.laws.fallback_preserves.Goals as goal

pub returns-clause-clusters : goal.returns-clause-clusters
returns-clause-clusters c = λ face classes masks. fallback-order face classes masks

pub returns-clause-flags : goal.returns-clause-flags
returns-clause-flags c = λ face classes masks. fallback-flags face classes masks
