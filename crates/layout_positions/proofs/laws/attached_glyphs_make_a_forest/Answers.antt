use Rattle.layout_positions.proofs.FollowLemmas.{backward-forest, low-forest}
use Rattle.layout_positions.proofs.laws.attached_glyphs_make_a_forest.Goals as goal

pub returns-clause-backward : goal.returns-clause-backward
returns-clause-backward c = backward-forest

pub returns-clause-low : goal.returns-clause-low
returns-clause-low c = low-forest
