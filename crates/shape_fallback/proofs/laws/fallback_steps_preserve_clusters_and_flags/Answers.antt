use Rattle.shape_fallback.proofs.PreservationLemmas.{fallback-preserves_clusters, fallback-preserves_flags}
use Rattle.shape_fallback.proofs.laws.fallback_steps_preserve_clusters_and_flags.Goals as goal

pub returns-clause-clusters : goal.returns-clause-clusters
returns-clause-clusters c = fallback-preserves_clusters

pub returns-clause-flags : goal.returns-clause-flags
returns-clause-flags c = fallback-preserves_flags
