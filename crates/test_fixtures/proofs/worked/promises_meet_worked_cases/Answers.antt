use Rattle.test_fixtures.proofs.PromiseRows.{worked_promises}
use Rattle.test_fixtures.proofs.worked.promises_meet_worked_cases.Goals as goal

pub returns : goal.returns
returns c = worked_promises
