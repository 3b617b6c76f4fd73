use Rattle.khmer_shaper.specs.Worked.Orders.{worked_orders}
use Rattle.khmer_shaper.proofs.worked.orders_meet_worked_cases.Goals as goal

pub returns : goal.returns
returns c = worked_orders
