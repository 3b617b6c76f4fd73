use Rattle.layout_matching.specs.Worked.Seeking.{worked_seeking}
use Rattle.layout_matching.proofs.worked.searches_meet_worked_cases.Goals as goal

pub returns : goal.returns
returns c = worked_seeking
