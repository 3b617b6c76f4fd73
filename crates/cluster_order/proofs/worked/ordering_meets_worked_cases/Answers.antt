use Rattle.cluster_order.specs.Worked.Ordered.{worked_ordered}
use Rattle.cluster_order.proofs.worked.ordering_meets_worked_cases.Goals as goal

pub returns : goal.returns
returns c = worked_ordered
