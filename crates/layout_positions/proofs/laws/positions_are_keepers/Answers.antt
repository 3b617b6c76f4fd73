use Rattle.layout_positions.proofs.PreservationLemmas.{started-clusters, started-flags, positioned-clusters, positioned-flags, finished-clusters, finished-flags}
use Rattle.layout_positions.proofs.laws.positions_are_keepers.Goals as goal

pub returns-clause-start_clusters : goal.returns-clause-start_clusters
returns-clause-start_clusters c = started-clusters

pub returns-clause-start_flags : goal.returns-clause-start_flags
returns-clause-start_flags c = started-flags

pub returns-clause-clusters : goal.returns-clause-clusters
returns-clause-clusters c = positioned-clusters

pub returns-clause-flags : goal.returns-clause-flags
returns-clause-flags c = positioned-flags

pub returns-clause-finished_clusters : goal.returns-clause-finished_clusters
returns-clause-finished_clusters c = finished-clusters

pub returns-clause-finished_flags : goal.returns-clause-finished_flags
returns-clause-finished_flags c = finished-flags
