use Rattle.canonical_form.proofs.LawLemmas.{ordered_is_equivalent, normalised_is_equivalent}
use Rattle.canonical_form.proofs.laws.normalised_is_equivalent.Goals as goal

pub returns-clause-ordered : goal.returns-clause-ordered
returns-clause-ordered g = ordered_is_equivalent

pub returns-clause-recomposed : goal.returns-clause-recomposed
returns-clause-recomposed g = normalised_is_equivalent
