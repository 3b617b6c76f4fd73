use Rattle.shape_pipeline.specs.Worked.Beginnings.{worked_beginnings}
use Rattle.shape_pipeline.proofs.WorkedObligationLemmas.{pauses_are_asked}
use Rattle.shape_pipeline.proofs.worked.beginnings_meet_worked_cases.Goals as goal

pub returns-clause-beginnings : goal.returns-clause-beginnings
returns-clause-beginnings c = worked_beginnings

pub returns-clause-pauses : goal.returns-clause-pauses
returns-clause-pauses c = pauses_are_asked
