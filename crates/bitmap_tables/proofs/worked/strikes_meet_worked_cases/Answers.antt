use Rattle.bitmap_tables.specs.Worked.Strikes.{worked_scales, worked_strikes, worked_sbix}
use Rattle.bitmap_tables.proofs.worked.strikes_meet_worked_cases.Goals as goal

pub returns-clause-scales : goal.returns-clause-scales
returns-clause-scales c = worked_scales

pub returns-clause-strikes : goal.returns-clause-strikes
returns-clause-strikes c = worked_strikes

pub returns-clause-sbix : goal.returns-clause-sbix
returns-clause-sbix c = worked_sbix
