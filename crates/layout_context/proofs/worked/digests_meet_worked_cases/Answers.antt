use Rattle.layout_context.specs.Worked.Meeting.{worked_meeting}
use Rattle.layout_context.proofs.worked.digests_meet_worked_cases.Goals as goal

pub returns : goal.returns
returns c = worked_meeting
