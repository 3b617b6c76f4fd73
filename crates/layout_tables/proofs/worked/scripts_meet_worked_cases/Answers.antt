use Rattle.layout_tables.specs.Worked.Scripts.{worked_offsets, worked_script_choice, worked_language_choice}
use Rattle.layout_tables.proofs.worked.scripts_meet_worked_cases.Goals as goal

pub returns-clause-offsets : goal.returns-clause-offsets
returns-clause-offsets c = worked_offsets

pub returns-clause-scripts : goal.returns-clause-scripts
returns-clause-scripts c = worked_script_choice

pub returns-clause-languages : goal.returns-clause-languages
returns-clause-languages c = worked_language_choice
