use Rattle.layout_digests.specs.Worked.Digests.{worked_lacks}
use Rattle.layout_digests.proofs.worked.sets_that_lack_meet_worked_cases.Goals as goal

pub returns : goal.returns
returns c = worked_lacks
