use Rattle.font_variations.specs.Worked.Coordinates.{worked_normal, worked_segments, worked_coordinates}
use Rattle.font_variations.proofs.worked.coordinates_meet_worked_cases.Goals as goal

pub returns-clause-normal : goal.returns-clause-normal
returns-clause-normal c = worked_normal

pub returns-clause-segments : goal.returns-clause-segments
returns-clause-segments c = worked_segments

pub returns-clause-coordinates : goal.returns-clause-coordinates
returns-clause-coordinates c = worked_coordinates
