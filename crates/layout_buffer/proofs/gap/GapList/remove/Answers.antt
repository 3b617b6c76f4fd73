use Rattle.std.proofs.Common.{arith}
use Rattle.std.proofs.lemmas.Grind.{common_steps}
use Rattle.layout_buffer.proofs.GapLemmas.{gap_removes}
use Rattle.layout_buffer.proofs.gap.GapList.remove.Goals as goal

pub returns-clause-list : goal.returns-clause-list
returns-clause-list g c = grind (arith, common_steps, gap_removes)
