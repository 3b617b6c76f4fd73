use Rattle.shape_unicode.proofs.TableLemmas.{mirrors_are_mutual}
use Rattle.shape_unicode.proofs.laws.mirrors_are_mutual.Goals as goal

pub returns : goal.returns
returns c = mirrors_are_mutual
