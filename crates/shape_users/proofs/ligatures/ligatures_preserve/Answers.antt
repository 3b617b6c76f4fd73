use Rattle.shape_users.proofs.LigatureLemmas.{substituted-order, substituted-flags}
use Rattle.shape_users.proofs.ligatures.ligatures_preserve.Goals as goal

pub returns-clause-clusters : goal.returns-clause-clusters
returns-clause-clusters g c = λ map face. c.stages_preserve.ensures.clusters map face (λ i. substituted-order)

pub returns-clause-flags : goal.returns-clause-flags
returns-clause-flags g c = λ map face. c.stages_preserve.ensures.flags map face (λ i. substituted-flags)
