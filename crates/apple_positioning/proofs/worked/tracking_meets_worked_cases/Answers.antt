use Rattle.apple_positioning.specs.Worked.Spacing.{worked_tracking, worked_parts, worked_spacing}
use Rattle.apple_positioning.proofs.worked.tracking_meets_worked_cases.Goals as goal

pub returns-clause-tracking : goal.returns-clause-tracking
returns-clause-tracking c = worked_tracking

pub returns-clause-parts : goal.returns-clause-parts
returns-clause-parts c = worked_parts

pub returns-clause-spacing : goal.returns-clause-spacing
returns-clause-spacing c = worked_spacing
