use Rattle.arabic_fallback.specs.Worked.Ligatures.{worked_ligatures}
use Rattle.arabic_fallback.proofs.worked.ligatures_meet_worked_cases.Goals as goal

pub returns : goal.returns
returns c = worked_ligatures
