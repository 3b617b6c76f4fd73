use Rattle.layout_positions.specs.Worked.Values.{worked_values}
use Rattle.layout_positions.specs.Worked.Values.{worked_anchors}
use Rattle.layout_positions.specs.Worked.Devices.{worked_devices}
use Rattle.layout_positions.specs.Worked.Pairs.{worked_tables}
use Rattle.layout_positions.specs.Worked.Pairs.{worked_lines}
use Rattle.layout_positions.proofs.worked.adjustment_meets_worked_cases.Goals as goal

pub returns-clause-values : goal.returns-clause-values
returns-clause-values c = worked_values

pub returns-clause-anchors : goal.returns-clause-anchors
returns-clause-anchors c = worked_anchors

pub returns-clause-devices : goal.returns-clause-devices
returns-clause-devices c = worked_devices

pub returns-clause-tables : goal.returns-clause-tables
returns-clause-tables c = worked_tables

pub returns-clause-lines : goal.returns-clause-lines
returns-clause-lines c = worked_lines
