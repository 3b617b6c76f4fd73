use Rattle.arabic_stretching.specs.Worked.Fitting.{worked_fitting}
use Rattle.arabic_stretching.proofs.worked.fitting_meets_worked_cases.Goals as goal

pub returns : goal.returns
returns c = worked_fitting
