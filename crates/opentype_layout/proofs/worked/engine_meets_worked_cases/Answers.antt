use Rattle.opentype_layout.specs.Worked.Engine.{worked_engine}
use Rattle.opentype_layout.proofs.worked.engine_meets_worked_cases.Goals as goal

pub returns : goal.returns
returns c = worked_engine
