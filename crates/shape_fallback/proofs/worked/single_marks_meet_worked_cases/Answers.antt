use Rattle.shape_fallback.specs.Worked.OneMark.{worked_one_mark}
use Rattle.shape_fallback.proofs.worked.single_marks_meet_worked_cases.Goals as goal

pub returns : goal.returns
returns c = worked_one_mark
