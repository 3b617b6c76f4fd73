use Rattle.shape_users.specs.Worked.Shown.{worked_cuts}
use Rattle.shape_users.proofs.lines.cuts_meet_worked_cases.Goals as goal

pub returns : goal.returns
returns c = worked_cuts
