use Rattle.std.proofs.Common.{arith}
use Rattle.std.proofs.lemmas.Grind.{common_steps}
use Rattle.shape_common.proofs.WrappingLemmas.{kept_bits}
use Rattle.text_lines.proofs.visual.reach_of.Goals as goal

pub loop-place-preserved : goal.loop-place-preserved
loop-place-preserved c = record {
  above = grind (arith, common_steps, kept_bits);
  below = grind (arith, common_steps, kept_bits);
}
