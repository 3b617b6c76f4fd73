use Rattle.test_fixtures.proofs.PremiseRows.{worked_premises}
use Rattle.test_fixtures.proofs.worked.premises_meet_worked_cases.Goals as goal

pub returns : goal.returns
returns c = worked_premises
