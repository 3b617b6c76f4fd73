use Rattle.layout_context.proofs.TriesLemmas.{tries-paid}
use Rattle.layout_context.proofs.laws.stages_try_no_more_than_is_left.Goals as goal

pub returns : goal.returns
returns c = tries-paid
