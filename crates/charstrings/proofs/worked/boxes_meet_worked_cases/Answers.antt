use Rattle.charstrings.specs.Worked.Boxes.{worked_bounds, worked_rounding, worked_boxes}
use Rattle.charstrings.proofs.worked.boxes_meet_worked_cases.Goals as goal

pub returns-clause-bounds : goal.returns-clause-bounds
returns-clause-bounds c = worked_bounds

pub returns-clause-rounding : goal.returns-clause-rounding
returns-clause-rounding c = worked_rounding

pub returns-clause-boxes : goal.returns-clause-boxes
returns-clause-boxes c = worked_boxes
