use Rattle.apple_substitution.specs.Worked.Running.{worked_kinds, worked_orders, worked_runs}
use Rattle.apple_substitution.proofs.worked.running_meets_worked_cases.Goals as goal

pub returns-clause-runs : goal.returns-clause-runs
returns-clause-runs c = worked_runs

pub returns-clause-kinds : goal.returns-clause-kinds
returns-clause-kinds c = worked_kinds

pub returns-clause-orders : goal.returns-clause-orders
returns-clause-orders c = worked_orders
