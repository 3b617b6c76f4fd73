use Rattle.shape_normalize.proofs.NotedRows.{one_walk_worked}
use Rattle.shape_normalize.proofs.worked.one_walk_meets_worked_cases.Goals as goal

pub returns : goal.returns
returns c = one_walk_worked
