use Rattle.shape_glyphs.proofs.StepPreservation.{steps_preserve}
use Rattle.shape_glyphs.proofs.laws.steps_preserve_clusters_and_flags.Goals as goal

pub returns : goal.returns
returns c = steps_preserve
