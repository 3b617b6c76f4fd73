use Rattle.shape_prepare.specs.Worked.Order.{worked_order}
use Rattle.shape_prepare.proofs.worked.orders_meet_worked_cases.Goals as goal

pub returns : goal.returns
returns c = worked_order
