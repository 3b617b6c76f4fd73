use Rattle.glyf_points.specs.Worked.Glyphs.{worked_flags, worked_steps, worked_points, worked_parts}
use Rattle.glyf_points.proofs.worked.glyphs_meet_worked_cases.Goals as goal

pub returns-clause-flags : goal.returns-clause-flags
returns-clause-flags c = worked_flags

pub returns-clause-steps : goal.returns-clause-steps
returns-clause-steps c = worked_steps

pub returns-clause-points : goal.returns-clause-points
returns-clause-points c = worked_points

pub returns-clause-parts : goal.returns-clause-parts
returns-clause-parts c = worked_parts
