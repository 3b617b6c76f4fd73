use Rattle.script_shapers.specs.Worked.HebrewPoints.{worked_points}
use Rattle.script_shapers.proofs.hebrew.points_meet_worked_cases.Goals as goal

pub returns : goal.returns
returns c = worked_points
