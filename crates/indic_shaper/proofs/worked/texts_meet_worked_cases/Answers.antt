use Rattle.indic_shaper.specs.Worked.Texts.{worked_texts, worked_places}
use Rattle.indic_shaper.proofs.worked.texts_meet_worked_cases.Goals as goal

pub returns-clause-texts : goal.returns-clause-texts
returns-clause-texts c = worked_texts

pub returns-clause-places : goal.returns-clause-places
returns-clause-places c = worked_places
