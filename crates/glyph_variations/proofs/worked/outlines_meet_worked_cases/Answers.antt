use Rattle.glyph_variations.specs.WorkedOutlines.{worked_inference, worked_neighbors, worked_contours, worked_outlines}
use Rattle.glyph_variations.proofs.worked.outlines_meet_worked_cases.Goals as goal

pub returns-clause-inference : goal.returns-clause-inference
returns-clause-inference c = worked_inference

pub returns-clause-neighbors : goal.returns-clause-neighbors
returns-clause-neighbors c = worked_neighbors

pub returns-clause-contours : goal.returns-clause-contours
returns-clause-contours c = worked_contours

pub returns-clause-outlines : goal.returns-clause-outlines
returns-clause-outlines c = worked_outlines
