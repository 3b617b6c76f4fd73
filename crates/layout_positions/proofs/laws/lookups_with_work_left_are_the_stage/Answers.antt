use Rattle.layout_positions.proofs.LeftLemmas.{positioned-less}
use Rattle.layout_positions.proofs.StageLemmas.{stage-agrees}
use Rattle.layout_positions.proofs.laws.lookups_with_work_left_are_the_stage.Goals as goal

pub returns-clause-stage : goal.returns-clause-stage
returns-clause-stage c = stage-agrees

pub returns-clause-work : goal.returns-clause-work
returns-clause-work c = positioned-less
