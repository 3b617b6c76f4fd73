use Rattle.apple_positioning.specs.Worked.Older.{worked_old_states, worked_old_lists, worked_old_headers, worked_old_lines, worked_old_rises, worked_old_kinds}
use Rattle.apple_positioning.proofs.worked.older_tables_meet_worked_cases.Goals as goal

pub returns-clause-states : goal.returns-clause-states
returns-clause-states c = worked_old_states

pub returns-clause-lists : goal.returns-clause-lists
returns-clause-lists c = worked_old_lists

pub returns-clause-headers : goal.returns-clause-headers
returns-clause-headers c = worked_old_headers

pub returns-clause-lines : goal.returns-clause-lines
returns-clause-lines c = worked_old_lines

pub returns-clause-rises : goal.returns-clause-rises
returns-clause-rises c = worked_old_rises

pub returns-clause-kinds : goal.returns-clause-kinds
returns-clause-kinds c = worked_old_kinds
