use Rattle.glyph_outlines.specs.Worked.Contours.{worked_contours}
use Rattle.glyph_outlines.specs.Worked.Frames.{worked_frames}
use Rattle.glyph_outlines.specs.Worked.Places.{worked_places}
use Rattle.glyph_outlines.proofs.worked.outlines_meet_worked_cases.Goals as goal

pub returns-clause-contours : goal.returns-clause-contours
returns-clause-contours c = worked_contours

pub returns-clause-frames : goal.returns-clause-frames
returns-clause-frames c = worked_frames

pub returns-clause-places : goal.returns-clause-places
returns-clause-places c = worked_places
