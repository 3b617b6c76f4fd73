use Rattle.layout_substitution.proofs.LigatureListLemmas.{ligature-is-list}
use Rattle.layout_substitution.proofs.laws.ligatures_make_lists.Goals as goal

pub returns : goal.returns
returns c = ligature-is-list
