use Rattle.shape_fallback.specs.Worked.Spaces.{worked_spaces_meet}
use Rattle.shape_fallback.proofs.worked.spaces_meet_worked_cases.Goals as goal

pub returns : goal.returns
returns c = worked_spaces_meet
