use Rattle.layout_matching.specs.Worked.LigatureSets.{worked_sets}
use Rattle.layout_matching.proofs.worked.stored_sets_meet_worked_cases.Goals as goal

pub returns : goal.returns
returns c = worked_sets
