use Rattle.std.proofs.Common.{arith}
use Rattle.std.proofs.lemmas.Grind.{common_steps}
use Rattle.std.proofs.lemmas.List.Sums.{prefix_len-le-length}
use Rattle.layout_buffer.proofs.gap_items.growth_after.Goals as goal

pub returns-clause-within : goal.returns-clause-within
returns-clause-within c = grind (arith, common_steps, prefix_len-le-length)
