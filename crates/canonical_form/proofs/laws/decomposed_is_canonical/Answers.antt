use Rattle.canonical_form.proofs.LawLemmas.{decomposed_is_canonical, decomposed_decides}
use Rattle.canonical_form.proofs.laws.decomposed_is_canonical.Goals as goal

pub returns-clause-canonical : goal.returns-clause-canonical
returns-clause-canonical g = decomposed_is_canonical

pub returns-clause-decides : goal.returns-clause-decides
returns-clause-decides g = decomposed_decides
