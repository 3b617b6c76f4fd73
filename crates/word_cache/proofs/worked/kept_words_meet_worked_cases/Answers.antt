use Rattle.word_cache.proofs.KeptRows.{worked_kept}
use Rattle.word_cache.proofs.worked.kept_words_meet_worked_cases.Goals as goal

pub returns : goal.returns
returns c = worked_kept
