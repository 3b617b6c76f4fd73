use Rattle.shape_glyphs.specs.Worked.Glyphs.{worked_glyphs}
use Rattle.shape_glyphs.specs.Worked.Positions.{worked_positions}
use Rattle.shape_glyphs.proofs.worked.positions_meet_worked_cases.Goals as goal

pub returns-clause-positions : goal.returns-clause-positions
returns-clause-positions c = worked_positions

pub returns-clause-glyphs : goal.returns-clause-glyphs
returns-clause-glyphs c = worked_glyphs
