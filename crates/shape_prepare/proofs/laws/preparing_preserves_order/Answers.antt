use Rattle.shape_prepare.proofs.Preservation.PreservationLemmas.{preparing_preserves_order}
use Rattle.shape_prepare.proofs.laws.preparing_preserves_order.Goals as goal

pub returns : goal.returns
returns c = preparing_preserves_order
