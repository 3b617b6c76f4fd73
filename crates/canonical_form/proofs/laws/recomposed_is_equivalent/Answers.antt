use Rattle.canonical_form.proofs.LawLemmas.{recomposed_is_equivalent}
use Rattle.canonical_form.proofs.NormaliseLemmas.{equivalent_composed}
use Rattle.canonical_form.proofs.laws.recomposed_is_equivalent.Goals as goal

pub returns-clause-whole : goal.returns-clause-whole
returns-clause-whole g = recomposed_is_equivalent

pub returns-clause-step : goal.returns-clause-step
returns-clause-step g = equivalent_composed
