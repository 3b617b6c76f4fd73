use Rattle.layout_tables.specs.Worked.Glyphs.{worked_coverage, worked_classes, worked_definitions}
use Rattle.layout_tables.proofs.worked.glyphs_meet_worked_cases.Goals as goal

pub returns-clause-coverage : goal.returns-clause-coverage
returns-clause-coverage c = worked_coverage

pub returns-clause-classes : goal.returns-clause-classes
returns-clause-classes c = worked_classes

pub returns-clause-definitions : goal.returns-clause-definitions
returns-clause-definitions c = worked_definitions
