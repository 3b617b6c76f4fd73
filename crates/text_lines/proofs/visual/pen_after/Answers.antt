use Rattle.std.proofs.Common.{arith}
use Rattle.std.proofs.lemmas.Grind.{common_steps}
use Rattle.shape_common.proofs.WrappingLemmas.{kept_bits}
use Rattle.text_lines.proofs.visual.pen_after.Goals as goal

pub loop-place-preserved : goal.loop-place-preserved
loop-place-preserved c = grind (arith, common_steps, kept_bits)
