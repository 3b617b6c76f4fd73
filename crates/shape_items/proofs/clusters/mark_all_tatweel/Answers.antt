use Rattle.std.proofs.Common.{arith}
use Rattle.std.proofs.lemmas.Grind.{common_steps}
use Rattle.std.proofs.lemmas.List.Edits.{map_over_more}
use Rattle.shape_items.specs.Clusters.{mark_tatweel}
use Rattle.shape_items.proofs.clusters.mark_all_tatweel.Goals as goal

pub loop-info-preserved : goal.loop-info-preserved
loop-info-preserved c = grind (arith, common_steps, map_over_more (mark_tatweel c.args.least))
