use Rattle.cluster_order.proofs.OrderedLemmas.{ordered-orders, ordered-same, ordered-preserves, ordered-flags, ordered-count}
use Rattle.cluster_order.proofs.laws.ordering_orders.Goals as goal

pub returns-clause-orders : goal.returns-clause-orders
returns-clause-orders c = ordered-orders

pub returns-clause-same : goal.returns-clause-same
returns-clause-same c = ordered-same

pub returns-clause-clusters : goal.returns-clause-clusters
returns-clause-clusters c = λ backward b monotone. ordered-preserves backward b

pub returns-clause-flags : goal.returns-clause-flags
returns-clause-flags c = ordered-flags

pub returns-clause-count : goal.returns-clause-count
returns-clause-count c = ordered-count
