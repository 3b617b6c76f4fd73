use Rattle.apple_substitution.specs.Worked.Metamorphoses.{worked_subtables, worked_chain_costs, worked_chains, worked_limits, worked_concat}
use Rattle.apple_substitution.proofs.worked.metamorphoses_meet_worked_cases.Goals as goal

pub returns-clause-subtables : goal.returns-clause-subtables
returns-clause-subtables c = worked_subtables

pub returns-clause-costs : goal.returns-clause-costs
returns-clause-costs c = worked_chain_costs

pub returns-clause-chains : goal.returns-clause-chains
returns-clause-chains c = worked_chains

pub returns-clause-limits : goal.returns-clause-limits
returns-clause-limits c = worked_limits

pub returns-clause-concat : goal.returns-clause-concat
returns-clause-concat c = worked_concat
