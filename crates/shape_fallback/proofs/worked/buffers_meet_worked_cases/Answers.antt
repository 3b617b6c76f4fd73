use Rattle.shape_fallback.specs.Worked.Buffers.{worked_buffers}
use Rattle.shape_fallback.proofs.worked.buffers_meet_worked_cases.Goals as goal

pub returns : goal.returns
returns c = worked_buffers
