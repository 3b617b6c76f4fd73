use Rattle.shape_prepare.proofs.Preservation.PreservationLemmas.{preparing_preserves_flags}
use Rattle.shape_prepare.proofs.laws.preparing_preserves_flags.Goals as goal

pub returns : goal.returns
returns c = preparing_preserves_flags
