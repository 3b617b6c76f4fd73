use Rattle.indic_shaper.specs.Worked.Steps.{worked_bases, worked_attaching, worked_masks, worked_joins}
use Rattle.indic_shaper.proofs.initial.worked.first_steps_meet_worked_cases.Goals as goal

pub returns-clause-bases : goal.returns-clause-bases
returns-clause-bases c = worked_bases

pub returns-clause-attaching : goal.returns-clause-attaching
returns-clause-attaching c = worked_attaching

pub returns-clause-masks : goal.returns-clause-masks
returns-clause-masks c = worked_masks

pub returns-clause-joins : goal.returns-clause-joins
returns-clause-joins c = worked_joins
