use Rattle.arabic_fallback.specs.Worked.Faces.{worked_faces}
use Rattle.arabic_fallback.proofs.worked.faces_meet_worked_cases.Goals as goal

pub returns : goal.returns
returns c = worked_faces
