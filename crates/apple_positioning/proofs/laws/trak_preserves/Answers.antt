use Rattle.apple_positioning.proofs.TrakPreservation.{trak-count, trak-flags, trak-order, trak-preserves}
use Rattle.apple_positioning.proofs.laws.trak_preserves.Goals as goal

pub returns-clause-clusters : goal.returns-clause-clusters
returns-clause-clusters c = trak-order

pub returns-clause-flags : goal.returns-clause-flags
returns-clause-flags c = trak-flags

pub returns-clause-count : goal.returns-clause-count
returns-clause-count c = trak-count

pub returns-clause-limit : goal.returns-clause-limit
returns-clause-limit c = λ t size points mask b. (trak-preserves t size points mask b).limit

pub returns-clause-left : goal.returns-clause-left
returns-clause-left c = λ t size points mask b. (trak-preserves t size points mask b).left
