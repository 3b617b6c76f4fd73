use Rattle.std.proofs.Common.{arith}
use Rattle.layout_map.specs.Stages.{staged}
use Rattle.layout_map.proofs.StageLemmas.{stages_counted, stage_is_own, none_past}
use Rattle.layout_map.proofs.laws.stages_have_their_own_lookups.Goals as goal

pub returns-clause-own : goal.returns-clause-own
returns-clause-own c = stage_is_own

pub returns-clause-past : goal.returns-clause-past
returns-clause-past c = λ t features required_stage pauses i past.
    none_past (staged t features required_stage pauses) i
    (omega (arith, past, stages_counted t features required_stage pauses))

pub returns-clause-count : goal.returns-clause-count
returns-clause-count c = stages_counted
