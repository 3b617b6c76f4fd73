use Rattle.font_sizes.proofs.SizeLemmas.{stays}
use Rattle.font_sizes.proofs.laws.em_square_changes_nothing.Goals as goal

pub returns : goal.returns
returns c = stays
