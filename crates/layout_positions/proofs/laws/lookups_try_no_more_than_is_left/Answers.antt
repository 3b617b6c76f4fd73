use Rattle.layout_positions.proofs.TriesLemmas.{tries-paid}
use Rattle.layout_positions.proofs.laws.lookups_try_no_more_than_is_left.Goals as goal

pub returns : goal.returns
returns c = tries-paid
