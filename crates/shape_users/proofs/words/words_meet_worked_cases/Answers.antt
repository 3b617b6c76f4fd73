use Rattle.shape_users.proofs.WordRows.{worked_words}
use Rattle.shape_users.proofs.words.words_meet_worked_cases.Goals as goal

pub returns : goal.returns
returns c = worked_words
