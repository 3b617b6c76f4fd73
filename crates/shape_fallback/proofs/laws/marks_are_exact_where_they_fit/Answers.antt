use Rattle.shape_fallback.proofs.ExactLemmas.{marks-exact, round-exact}
use Rattle.shape_fallback.proofs.laws.marks_are_exact_where_they_fit.Goals as goal

pub returns : goal.returns
returns c = record { one = marks-exact; round = round-exact }
