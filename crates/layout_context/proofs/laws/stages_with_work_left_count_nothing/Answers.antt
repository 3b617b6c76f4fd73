use Rattle.layout_context.proofs.WorkLeftLemmas.{stage-frees}
use Rattle.layout_context.proofs.laws.stages_with_work_left_count_nothing.Goals as goal

pub returns : goal.returns
returns c = stage-frees
