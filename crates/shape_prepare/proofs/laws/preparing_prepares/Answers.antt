use Rattle.shape_prepare.proofs.Preservation.PreparedLemmas.{preparing_prepares}
use Rattle.shape_prepare.proofs.laws.preparing_prepares.Goals as goal

pub returns : goal.returns
returns c = preparing_prepares
