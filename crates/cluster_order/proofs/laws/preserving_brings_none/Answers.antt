use Rattle.cluster_order.proofs.OrderedLemmas.{brings_none}
use Rattle.cluster_order.proofs.laws.preserving_brings_none.Goals as goal

pub returns : goal.returns
returns c = λ f preserves b monotone. brings_none (preserves b monotone)
