use Rattle.layout_positions.specs.Worked.Paired.{worked_paired}
use Rattle.layout_positions.proofs.worked.known_pairs_meet_worked_cases.Goals as goal

pub returns : goal.returns
returns c = worked_paired
