use Rattle.apple_positioning.specs.Worked.Tables.{worked_links, worked_tables}
use Rattle.apple_positioning.proofs.worked.tables_meet_worked_cases.Goals as goal

pub returns-clause-tables : goal.returns-clause-tables
returns-clause-tables c = worked_tables

pub returns-clause-links : goal.returns-clause-links
returns-clause-links c = worked_links
