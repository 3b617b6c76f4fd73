use Rattle.layout_positions.proofs.UncoveredLemmas.{positioned-uncovered}
use Rattle.layout_positions.proofs.laws.uncovered_lists_stay.Goals as goal

pub returns : goal.returns
returns c = positioned-uncovered
