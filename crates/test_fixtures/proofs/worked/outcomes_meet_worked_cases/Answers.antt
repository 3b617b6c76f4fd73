use Rattle.test_fixtures.proofs.OutcomeRows.{worked_outcomes}
use Rattle.test_fixtures.proofs.worked.outcomes_meet_worked_cases.Goals as goal

pub returns : goal.returns
returns c = worked_outcomes
