use Rattle.word_cache.specs.Shaping.{IsShaped}
use Rattle.word_cache.proofs.LawLemmas.{all-brought, fresh-shaped}
use Rattle.word_cache.proofs.laws.words_stay_shaped.Goals as goal

pub returns-clause-found : goal.returns-clause-found
returns-clause-found c = λ runs key cache all. all-brought (IsShaped runs) key cache.entries all

pub returns-clause-fresh : goal.returns-clause-fresh
returns-clause-fresh c = fresh-shaped
