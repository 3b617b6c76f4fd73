use Rattle.canonical_form.proofs.LawLemmas.{full_is_by_two_rules}
use Rattle.canonical_form.proofs.laws.full_is_by_two_rules.Goals as goal

pub returns : goal.returns
returns g = full_is_by_two_rules
