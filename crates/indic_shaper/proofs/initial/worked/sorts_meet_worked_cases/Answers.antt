use Rattle.indic_shaper.specs.Worked.Initial.{worked_sorts}
use Rattle.indic_shaper.proofs.initial.worked.sorts_meet_worked_cases.Goals as goal

pub returns : goal.returns
returns c = worked_sorts
