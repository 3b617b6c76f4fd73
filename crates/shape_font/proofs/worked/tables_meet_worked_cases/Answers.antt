use Rattle.shape_font.specs.Worked.Tables.{worked_numbers, worked_directory, worked_collections, worked_subtables, worked_tags}
use Rattle.shape_font.proofs.worked.tables_meet_worked_cases.Goals as goal

pub returns-clause-numbers : goal.returns-clause-numbers
returns-clause-numbers c = worked_numbers

pub returns-clause-directory : goal.returns-clause-directory
returns-clause-directory c = worked_directory

pub returns-clause-collections : goal.returns-clause-collections
returns-clause-collections c = worked_collections

pub returns-clause-subtables : goal.returns-clause-subtables
returns-clause-subtables c = worked_subtables

pub returns-clause-tags : goal.returns-clause-tags
returns-clause-tags c = worked_tags
