use Rattle.arabic_stretching.proofs.PreservationLemmas.{recorded-order, recorded-flags, stretched-order, stretched-flags}
use Rattle.arabic_stretching.proofs.laws.stretching_preserves.Goals as goal

pub returns-clause-noted_clusters : goal.returns-clause-noted_clusters
returns-clause-noted_clusters c = recorded-order

pub returns-clause-noted_flags : goal.returns-clause-noted_flags
returns-clause-noted_flags c = recorded-flags

pub returns-clause-clusters : goal.returns-clause-clusters
returns-clause-clusters c = stretched-order

pub returns-clause-flags : goal.returns-clause-flags
returns-clause-flags c = stretched-flags
