use Rattle.test_fixtures.specs.Worked.Characters.{worked_characters}
use Rattle.test_fixtures.proofs.worked.characters_meet_worked_cases.Goals as goal

pub returns : goal.returns
returns c = worked_characters
