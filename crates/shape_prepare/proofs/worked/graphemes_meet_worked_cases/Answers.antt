use Rattle.shape_prepare.specs.Worked.Graphemes.{worked_graphemes}
use Rattle.shape_prepare.proofs.worked.graphemes_meet_worked_cases.Goals as goal

pub returns : goal.returns
returns c = worked_graphemes
