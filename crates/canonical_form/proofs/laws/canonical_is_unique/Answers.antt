use Rattle.canonical_form.proofs.EquivalentLemmas.{canonical_equal}
use Rattle.canonical_form.proofs.laws.canonical_is_unique.Goals as goal

pub returns : goal.returns
returns g = canonical_equal
