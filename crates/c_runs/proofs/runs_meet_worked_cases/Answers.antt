use Rattle.c_runs.proofs.WorkedRows.{worked_runs}
use Rattle.c_runs.proofs.runs_meet_worked_cases.Goals as goal

pub returns : goal.returns
returns c = worked_runs
