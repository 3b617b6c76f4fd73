use Rattle.layout_context.proofs.CoveredLemmas.{looked-uncovered}
use Rattle.layout_context.proofs.laws.uncovered_lists_stay.Goals as goal

pub returns : goal.returns
returns c = λ levels l s gsub none. looked-uncovered levels l s gsub none
