use Rattle.shape_items.proofs.Flags.ClusterFlagLemmas.{clusters_have_one_set}
use Rattle.shape_items.proofs.cluster_laws.clusters_have_one_set_of_flags.Goals as goal

pub returns : goal.returns
returns c = clusters_have_one_set
