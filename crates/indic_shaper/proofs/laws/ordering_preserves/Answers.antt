use Rattle.indic_shaper.proofs.OrderingLemmas.{Brought-ordered, Keeps-syllables_found}
use Rattle.indic_shaper.proofs.laws.ordering_preserves.Goals as goal

pub returns-clause-found : goal.returns-clause-found
returns-clause-found c = λ b monotone. (Keeps-syllables_found b).order monotone

pub returns-clause-clusters : goal.returns-clause-clusters
returns-clause-clusters c = λ facts none face lookups b monotone. (Brought-ordered facts none face lookups b).none monotone

pub returns-clause-flags : goal.returns-clause-flags
returns-clause-flags c = λ facts none face lookups b. (Brought-ordered facts none face lookups b).flags
