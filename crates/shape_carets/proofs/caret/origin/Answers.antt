use Rattle.std.proofs.Common.{arith}
use Rattle.std.proofs.lemmas.Grind.{common_steps}
use Rattle.shape_common.proofs.WrappingLemmas.{kept_bits}
use Rattle.shape_carets.proofs.caret.origin.Goals as goal

pub loop-cell-preserved : goal.loop-cell-preserved
loop-cell-preserved c = grind (arith, common_steps, kept_bits)
