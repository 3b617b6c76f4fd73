use Rattle.word_cache.proofs.WordRows.{worked_words}
use Rattle.word_cache.proofs.worked.words_meet_worked_cases.Goals as goal

pub returns : goal.returns
returns c = worked_words
