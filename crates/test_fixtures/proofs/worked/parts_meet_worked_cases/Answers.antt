use Rattle.test_fixtures.proofs.PartRows.{worked_parts}
use Rattle.test_fixtures.proofs.worked.parts_meet_worked_cases.Goals as goal

pub returns : goal.returns
returns c = worked_parts
