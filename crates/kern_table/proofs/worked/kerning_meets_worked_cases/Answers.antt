use Rattle.kern_table.specs.Worked.Apple.{worked_apple}
use Rattle.kern_table.specs.Worked.Charges.{worked_charges}
use Rattle.kern_table.specs.Worked.Engine.{worked_engine}
use Rattle.kern_table.specs.Worked.Kern.{worked_values, worked_classes, worked_numbers, worked_lines, worked_maps}
use Rattle.kern_table.proofs.SideRows.{worked_sides}
use Rattle.kern_table.proofs.worked.kerning_meets_worked_cases.Goals as goal

pub returns-clause-values : goal.returns-clause-values
returns-clause-values c = worked_values

pub returns-clause-classes : goal.returns-clause-classes
returns-clause-classes c = worked_classes

pub returns-clause-numbers : goal.returns-clause-numbers
returns-clause-numbers c = worked_numbers

pub returns-clause-apple : goal.returns-clause-apple
returns-clause-apple c = worked_apple

pub returns-clause-sides : goal.returns-clause-sides
returns-clause-sides c = worked_sides

pub returns-clause-lines : goal.returns-clause-lines
returns-clause-lines c = worked_lines

pub returns-clause-charges : goal.returns-clause-charges
returns-clause-charges c = worked_charges

pub returns-clause-maps : goal.returns-clause-maps
returns-clause-maps c = worked_maps

pub returns-clause-engine : goal.returns-clause-engine
returns-clause-engine c = worked_engine
