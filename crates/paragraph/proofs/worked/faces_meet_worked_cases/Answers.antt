use Rattle.paragraph.proofs.WorkedLemmas.{worked_faces}
use Rattle.paragraph.proofs.worked.faces_meet_worked_cases.Goals as goal

pub returns : goal.returns
returns c = worked_faces
