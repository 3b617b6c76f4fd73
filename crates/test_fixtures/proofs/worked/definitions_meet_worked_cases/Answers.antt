use Rattle.test_fixtures.specs.Worked.Definitions.{worked_cases}
use Rattle.test_fixtures.proofs.worked.definitions_meet_worked_cases.Goals as goal

pub returns : goal.returns
returns c = worked_cases
