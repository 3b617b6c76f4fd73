use Rattle.arabic_fallback.specs.Worked.Vain.{worked_vain}
use Rattle.arabic_fallback.proofs.worked.vain_searches_meet_worked_cases.Goals as goal

pub returns : goal.returns
returns c = worked_vain
