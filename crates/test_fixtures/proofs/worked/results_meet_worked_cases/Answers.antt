use Rattle.test_fixtures.specs.Worked.Results.{worked_results}
use Rattle.test_fixtures.proofs.worked.results_meet_worked_cases.Goals as goal

pub returns : goal.returns
returns c = worked_results
