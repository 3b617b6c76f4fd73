use Rattle.apple_positioning.proofs.KerxPreservation.{kerx-count, kerx-flags, kerx-order, kerx-preserves}
use Rattle.apple_positioning.proofs.laws.kerx_preserves.Goals as goal

pub returns-clause-clusters : goal.returns-clause-clusters
returns-clause-clusters c = kerx-order

pub returns-clause-flags : goal.returns-clause-flags
returns-clause-flags c = kerx-flags

pub returns-clause-count : goal.returns-clause-count
returns-clause-count c = kerx-count

pub returns-clause-limit : goal.returns-clause-limit
returns-clause-limit c = λ f b. (kerx-preserves f b).limit

pub returns-clause-left : goal.returns-clause-left
returns-clause-left c = λ f b. (kerx-preserves f b).left
