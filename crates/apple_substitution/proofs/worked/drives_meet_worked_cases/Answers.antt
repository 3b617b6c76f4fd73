use Rattle.apple_substitution.specs.Worked.Driving.{worked_drives, worked_breaks, worked_charges}
use Rattle.apple_substitution.proofs.worked.drives_meet_worked_cases.Goals as goal

pub returns-clause-drives : goal.returns-clause-drives
returns-clause-drives c = worked_drives

pub returns-clause-breaks : goal.returns-clause-breaks
returns-clause-breaks c = worked_breaks

pub returns-clause-charges : goal.returns-clause-charges
returns-clause-charges c = worked_charges
