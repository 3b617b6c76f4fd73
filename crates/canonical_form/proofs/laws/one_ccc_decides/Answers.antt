use Rattle.canonical_form.proofs.Recomposing.BlockLemmas.{recomposed_by_last, recomposed_by_greatest}
use Rattle.canonical_form.proofs.laws.one_ccc_decides.Goals as goal

pub returns-clause-last : goal.returns-clause-last
returns-clause-last g c = recomposed_by_last

pub returns-clause-greatest : goal.returns-clause-greatest
returns-clause-greatest g c = recomposed_by_greatest
