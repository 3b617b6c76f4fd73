use Rattle.shape_items.specs.Worked.Words.{words_worked}
use Rattle.shape_items.proofs.worked.words_meet_worked_cases.Goals as goal

pub returns : goal.returns
returns c = words_worked
