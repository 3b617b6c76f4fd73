use Rattle.test_fixtures.specs.Worked.Texts.{worked_texts}
use Rattle.test_fixtures.proofs.worked.texts_meet_worked_cases.Goals as goal

pub returns : goal.returns
returns c = worked_texts
