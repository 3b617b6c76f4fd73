use Rattle.arabic_fallback.specs.Worked.Charges.{worked_charges}
use Rattle.arabic_fallback.proofs.worked.charges_meet_worked_cases.Goals as goal

pub returns : goal.returns
returns c = worked_charges
