use Rattle.apple_positioning.proofs.KernPreservation.{kern-count, kern-flags, kern-order, kern-preserves}
use Rattle.apple_positioning.proofs.laws.kern_preserves.Goals as goal

pub returns-clause-clusters : goal.returns-clause-clusters
returns-clause-clusters c = kern-order

pub returns-clause-flags : goal.returns-clause-flags
returns-clause-flags c = kern-flags

pub returns-clause-count : goal.returns-clause-count
returns-clause-count c = kern-count

pub returns-clause-limit : goal.returns-clause-limit
returns-clause-limit c = λ f b. (kern-preserves f b).limit

pub returns-clause-left : goal.returns-clause-left
returns-clause-left c = λ f b. (kern-preserves f b).left
