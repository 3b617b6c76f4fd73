use Rattle.shape_font.specs.Worked.BoxesAt.{worked_places, worked_boxes}
use Rattle.shape_font.proofs.worked.boxes_meet_worked_cases.Goals as goal

pub returns-clause-places : goal.returns-clause-places
returns-clause-places c = worked_places

pub returns-clause-boxes : goal.returns-clause-boxes
returns-clause-boxes c = worked_boxes
