use Rattle.test_fixtures.proofs.FitRows.{worked_fits}
use Rattle.test_fixtures.proofs.worked.plans_meet_worked_cases.Goals as goal

pub returns : goal.returns
returns c = worked_fits
