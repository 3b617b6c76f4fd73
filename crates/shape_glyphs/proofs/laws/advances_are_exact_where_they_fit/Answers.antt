use Rattle.shape_glyphs.proofs.ExactLemmas.{exact_advances}
use Rattle.shape_glyphs.proofs.laws.advances_are_exact_where_they_fit.Goals as goal

pub returns : goal.returns
returns c = exact_advances
