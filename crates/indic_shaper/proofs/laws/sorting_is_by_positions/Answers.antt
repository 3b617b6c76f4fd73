use Rattle.indic_shaper.proofs.SortedLemmas.{sorted-arranged}
use Rattle.indic_shaper.proofs.laws.sorting_is_by_positions.Goals as goal

pub returns : goal.returns
returns c = sorted-arranged
