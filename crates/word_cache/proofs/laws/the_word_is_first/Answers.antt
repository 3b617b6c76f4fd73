use Rattle.word_cache.proofs.LawLemmas.{found-first, fresh-first}
use Rattle.word_cache.proofs.laws.the_word_is_first.Goals as goal

pub returns-clause-found : goal.returns-clause-found
returns-clause-found c = found-first

pub returns-clause-fresh : goal.returns-clause-fresh
returns-clause-fresh c = fresh-first
