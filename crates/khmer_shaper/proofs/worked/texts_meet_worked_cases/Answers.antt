use Rattle.khmer_shaper.specs.Worked.Texts.{worked_texts}
use Rattle.khmer_shaper.proofs.worked.texts_meet_worked_cases.Goals as goal

pub returns : goal.returns
returns c = worked_texts
