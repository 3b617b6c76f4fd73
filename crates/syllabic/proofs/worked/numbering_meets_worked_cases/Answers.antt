use Rattle.syllabic.specs.Worked.Numbering.{worked_numbering}
use Rattle.syllabic.proofs.worked.numbering_meets_worked_cases.Goals as goal

pub returns : goal.returns
returns c = worked_numbering
