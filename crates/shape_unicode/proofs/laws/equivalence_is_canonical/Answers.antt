use Rattle.shape_unicode.proofs.CanonicalLemmas.{equivalence_is_canonical}
use Rattle.shape_unicode.proofs.laws.equivalence_is_canonical.Goals as goal

pub returns : goal.returns
returns c = equivalence_is_canonical
