use Rattle.canonical_form.proofs.Ordering.SwapLemmas.{◌⟫◌, Swaps-sym}
use Rattle.canonical_form.specs.Order.{done}
use Rattle.canonical_form.proofs.laws.equivalence_is_an_equivalence.Goals as goal

pub returns-clause-reflexive : goal.returns-clause-reflexive
returns-clause-reflexive g = λ D s. done

pub returns-clause-symmetric : goal.returns-clause-symmetric
returns-clause-symmetric g = λ D s t there. Swaps-sym there

pub returns-clause-transitive : goal.returns-clause-transitive
returns-clause-transitive g = λ D s t u there on. there ⟫ on
