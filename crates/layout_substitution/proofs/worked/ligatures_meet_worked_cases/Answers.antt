use Rattle.layout_substitution.specs.Worked.{worked_ligatures}
use Rattle.layout_substitution.proofs.worked.ligatures_meet_worked_cases.Goals as goal

pub returns : goal.returns
returns c = worked_ligatures
