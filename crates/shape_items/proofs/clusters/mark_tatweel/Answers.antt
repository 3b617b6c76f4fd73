use Rattle.std.proofs.Common.{arith}
use Rattle.std.proofs.lemmas.Grind.{common_steps}
use Rattle.shape_items.proofs.Merging.ClusterLemmas.{put_mid-map_range}
use Rattle.shape_items.proofs.clusters.mark_tatweel.Goals as goal

pub returns : goal.returns
returns c = grind (arith, common_steps, put_mid-map_range)
