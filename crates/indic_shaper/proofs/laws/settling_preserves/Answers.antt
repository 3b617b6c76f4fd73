use Rattle.indic_shaper.proofs.SettlingLemmas.{Brings-all_settled}
use Rattle.indic_shaper.proofs.laws.settling_preserves.Goals as goal

pub returns-clause-clusters : goal.returns-clause-clusters
returns-clause-clusters c = λ facts init b monotone. (Brings-all_settled facts init b).none monotone

pub returns-clause-flags : goal.returns-clause-flags
returns-clause-flags c = λ facts init b. (Brings-all_settled facts init b).flags
