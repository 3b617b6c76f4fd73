use Rattle.arabic_fallback.specs.Worked.Merging.{worked_mergings}
use Rattle.arabic_fallback.proofs.worked.mergings_meet_worked_cases.Goals as goal

pub returns : goal.returns
returns c = worked_mergings
