use Rattle.font_variations.proofs.DefaultLemmas.{axes_at_default, regions_at_default, deltas_at_default, few_deltas_at_default}
use Rattle.font_variations.proofs.laws.defaults_add_nothing.Goals as goal

pub returns-clause-axes : goal.returns-clause-axes
returns-clause-axes c = axes_at_default

pub returns-clause-regions : goal.returns-clause-regions
returns-clause-regions c = regions_at_default

pub returns-clause-deltas : goal.returns-clause-deltas
returns-clause-deltas c = deltas_at_default

pub returns-clause-few : goal.returns-clause-few
returns-clause-few c = few_deltas_at_default
