use Rattle.glyph_outlines.specs.Worked.Varied.{worked_varied, worked_lefts}
use Rattle.glyph_outlines.proofs.worked.varied_outlines_meet_worked_cases.Goals as goal

pub returns-clause-points : goal.returns-clause-points
returns-clause-points c = worked_varied

pub returns-clause-lefts : goal.returns-clause-lefts
returns-clause-lefts c = worked_lefts
