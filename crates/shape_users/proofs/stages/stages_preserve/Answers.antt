use Rattle.shape_buffer.specs.Preservation.{IsClusterPreserving, IsFlagPreserving}
use Rattle.shape_plan.proofs.AuthorLemmas.{EachLookup-one_stage, PreservesOrder-same, PreservesFlags-same}
use Rattle.shape_users.proofs.stages.stages_preserve.Goals as goal

pub returns-clause-clusters : goal.returns-clause-clusters
returns-clause-clusters g c = λ map face preserves.
    EachLookup-one_stage IsClusterPreserving (g.E.engine_stages.made face) (λ b monotone. PreservesOrder-same b) preserves

pub returns-clause-flags : goal.returns-clause-flags
returns-clause-flags g c = λ map face preserves.
    EachLookup-one_stage IsFlagPreserving (g.E.engine_stages.made face) (λ b. PreservesFlags-same b) preserves
