use Rattle.shape_prepare.proofs.Preservation.FirstLemmas.{preparing_preserves_firsts}
use Rattle.shape_prepare.proofs.laws.preparing_preserves_firsts.Goals as goal

pub returns : goal.returns
returns c = preparing_preserves_firsts
