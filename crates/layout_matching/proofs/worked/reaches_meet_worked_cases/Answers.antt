use Rattle.layout_matching.specs.Worked.Tried.{worked_tried, worked_lets, worked_ahead}
use Rattle.layout_matching.proofs.worked.reaches_meet_worked_cases.Goals as goal

pub returns-clause-tried : goal.returns-clause-tried
returns-clause-tried c = worked_tried

pub returns-clause-lets : goal.returns-clause-lets
returns-clause-lets c = worked_lets

pub returns-clause-ahead : goal.returns-clause-ahead
returns-clause-ahead c = worked_ahead
