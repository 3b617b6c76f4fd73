use Rattle.shape_fallback.specs.Worked.Marks.{worked_marks}
use Rattle.shape_fallback.proofs.worked.marks_meet_worked_cases.Goals as goal

pub returns : goal.returns
returns c = worked_marks
