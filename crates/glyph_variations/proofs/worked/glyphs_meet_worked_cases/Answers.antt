use Rattle.glyph_variations.specs.Worked.{worked_glyphs, worked_metric_points}
use Rattle.glyph_variations.proofs.worked.glyphs_meet_worked_cases.Goals as goal

pub returns-clause-glyphs : goal.returns-clause-glyphs
returns-clause-glyphs c = worked_glyphs

pub returns-clause-metric_points : goal.returns-clause-metric_points
returns-clause-metric_points c = worked_metric_points
