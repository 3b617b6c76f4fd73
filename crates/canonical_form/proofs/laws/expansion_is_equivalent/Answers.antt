use Rattle.canonical_form.proofs.LawLemmas.{expansion_is_equivalent, choices_are_equivalent}
use Rattle.canonical_form.proofs.laws.expansion_is_equivalent.Goals as goal

pub returns-clause-expansion : goal.returns-clause-expansion
returns-clause-expansion g = expansion_is_equivalent

pub returns-clause-choices : goal.returns-clause-choices
returns-clause-choices g = choices_are_equivalent
