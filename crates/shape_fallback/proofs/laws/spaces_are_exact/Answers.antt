use Rattle.shape_fallback.proofs.ExactLemmas.{spaces-exact}
use Rattle.shape_fallback.proofs.laws.spaces_are_exact.Goals as goal

pub returns : goal.returns
returns c = spaces-exact
