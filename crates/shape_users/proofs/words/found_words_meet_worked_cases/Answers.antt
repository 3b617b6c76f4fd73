use Rattle.shape_users.proofs.FoundRows.{worked_found}
use Rattle.shape_users.proofs.words.found_words_meet_worked_cases.Goals as goal

pub returns : goal.returns
returns c = worked_found
