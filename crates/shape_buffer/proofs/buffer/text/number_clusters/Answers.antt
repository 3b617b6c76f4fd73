use Rattle.std.proofs.Common.{arith}
use Rattle.std.proofs.lemmas.Grind.{common_steps}
use Rattle.shape_buffer.proofs.TextLemmas.{numbered_more}
use Rattle.shape_buffer.proofs.buffer.text.number_clusters.Goals as goal

pub loop-info-preserved : goal.loop-info-preserved
loop-info-preserved c = record {
  cluster = grind arith;
  numbered = grind (arith, common_steps, numbered_more 0);
}
