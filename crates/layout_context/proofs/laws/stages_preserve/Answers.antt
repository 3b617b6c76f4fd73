use Rattle.layout_context.proofs.StageLemmas.{stage-order, stage-flags}
use Rattle.layout_context.proofs.laws.stages_preserve.Goals as goal

pub returns-clause-clusters : goal.returns-clause-clusters
returns-clause-clusters c = λ ls. stage-order ls

pub returns-clause-flags : goal.returns-clause-flags
returns-clause-flags c = λ ls. stage-flags ls
