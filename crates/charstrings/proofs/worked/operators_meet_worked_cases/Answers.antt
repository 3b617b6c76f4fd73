use Rattle.charstrings.specs.Worked.Operators.{worked_numbers, worked_lines, worked_curves, worked_axis_curves, worked_turning_curves, worked_flexes}
use Rattle.charstrings.proofs.worked.operators_meet_worked_cases.Goals as goal

pub returns-clause-numbers : goal.returns-clause-numbers
returns-clause-numbers c = worked_numbers

pub returns-clause-lines : goal.returns-clause-lines
returns-clause-lines c = worked_lines

pub returns-clause-curves : goal.returns-clause-curves
returns-clause-curves c = worked_curves

pub returns-clause-axis_curves : goal.returns-clause-axis_curves
returns-clause-axis_curves c = worked_axis_curves

pub returns-clause-turning_curves : goal.returns-clause-turning_curves
returns-clause-turning_curves c = worked_turning_curves

pub returns-clause-flexes : goal.returns-clause-flexes
returns-clause-flexes c = worked_flexes
