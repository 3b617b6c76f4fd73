use Rattle.std.proofs.Common.{arith}
use Rattle.std.proofs.lemmas.Grind.{common_steps}
use Rattle.shape_buffer.proofs.FillLemmas.{fill_step}
use Rattle.shape_buffer.proofs.buffer.storage.edits.zero_positions.Goals as goal

pub loop-position-preserved : goal.loop-position-preserved
loop-position-preserved c = grind (arith, common_steps, fill_step)
