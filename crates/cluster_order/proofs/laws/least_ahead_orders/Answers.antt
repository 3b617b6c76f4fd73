use Rattle.cluster_order.proofs.LeastLemmas.{ahead-rises, preserves, ahead-same}
use Rattle.cluster_order.proofs.laws.least_ahead_orders.Goals as goal

pub returns-clause-rises : goal.returns-clause-rises
returns-clause-rises c = ahead-rises

pub returns-clause-preserves : goal.returns-clause-preserves
returns-clause-preserves c = preserves

pub returns-clause-same : goal.returns-clause-same
returns-clause-same c = ahead-same
