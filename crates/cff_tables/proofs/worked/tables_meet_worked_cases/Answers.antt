use Rattle.cff_tables.specs.Worked.Tables.{worked_numbers, worked_index, worked_operands, worked_dicts, worked_selection, worked_fonts}
use Rattle.cff_tables.proofs.worked.tables_meet_worked_cases.Goals as goal

pub returns-clause-numbers : goal.returns-clause-numbers
returns-clause-numbers c = worked_numbers

pub returns-clause-index : goal.returns-clause-index
returns-clause-index c = worked_index

pub returns-clause-operands : goal.returns-clause-operands
returns-clause-operands c = worked_operands

pub returns-clause-dicts : goal.returns-clause-dicts
returns-clause-dicts c = worked_dicts

pub returns-clause-selection : goal.returns-clause-selection
returns-clause-selection c = worked_selection

pub returns-clause-fonts : goal.returns-clause-fonts
returns-clause-fonts c = worked_fonts
