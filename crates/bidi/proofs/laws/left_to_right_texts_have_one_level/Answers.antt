use Rattle.bidi.proofs.LeftTextLemmas.{one_level}
use Rattle.bidi.proofs.laws.left_to_right_texts_have_one_level.Goals as goal

pub returns : goal.returns
returns c = one_level
