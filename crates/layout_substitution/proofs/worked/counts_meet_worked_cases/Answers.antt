use Rattle.layout_substitution.specs.Worked.{worked_counts}
use Rattle.layout_substitution.proofs.worked.counts_meet_worked_cases.Goals as goal

pub returns : goal.returns
returns c = worked_counts
