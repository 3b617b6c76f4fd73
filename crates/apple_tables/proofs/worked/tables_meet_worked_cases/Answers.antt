use Rattle.apple_tables.specs.Worked.{worked_lookups, worked_states}
use Rattle.apple_tables.proofs.worked.tables_meet_worked_cases.Goals as goal

pub returns-clause-lookups : goal.returns-clause-lookups
returns-clause-lookups c = worked_lookups

pub returns-clause-states : goal.returns-clause-states
returns-clause-states c = worked_states
