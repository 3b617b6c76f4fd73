use Rattle.apple_positioning.specs.Worked.Points.{worked_anchors}
use Rattle.apple_positioning.proofs.worked.anchors_meet_worked_cases.Goals as goal

pub returns : goal.returns
returns c = worked_anchors
