use Rattle.script_shapers.specs.Worked.Thai.{worked_thai}
use Rattle.script_shapers.proofs.thai.sara_am_meets_worked_cases.Goals as goal

pub returns : goal.returns
returns c = worked_thai
