use Rattle.arabic_fallback.specs.Worked.Parts.{worked_parts}
use Rattle.arabic_fallback.proofs.worked.parts_meet_worked_cases.Goals as goal

pub returns : goal.returns
returns c = worked_parts
