use Rattle.indic_shaper.specs.Worked.Initial.{worked_orders}
use Rattle.indic_shaper.proofs.initial.worked.orders_meet_worked_cases.Goals as goal

pub returns : goal.returns
returns c = worked_orders
