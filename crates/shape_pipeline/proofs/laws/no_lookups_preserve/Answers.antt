use Rattle.shape_pipeline.proofs.PremiseLemmas.{clusters-no_lookups, flags-no_lookups}
use Rattle.shape_pipeline.proofs.laws.no_lookups_preserve.Goals as goal

pub returns-clause-clusters : goal.returns-clause-clusters
returns-clause-clusters c = clusters-no_lookups

pub returns-clause-flags : goal.returns-clause-flags
returns-clause-flags c = flags-no_lookups
