use Rattle.opened_face.specs.Worked.Ranges.{worked_ranges}
use Rattle.opened_face.specs.Worked.Pages.{worked_pages}
use Rattle.opened_face.proofs.worked.opened_faces_meet_worked_cases.Goals as goal

pub returns-clause-ranges : goal.returns-clause-ranges
returns-clause-ranges c = worked_ranges

pub returns-clause-pages : goal.returns-clause-pages
returns-clause-pages c = worked_pages
