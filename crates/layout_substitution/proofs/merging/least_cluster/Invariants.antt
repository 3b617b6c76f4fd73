use Rattle.std.proofs.Common.{◌≡◌, slice_range}
use Rattle.shape_items.specs.Clusters.{least_cluster}
use Rattle.layout_substitution.proofs.merging.least_cluster.Given as goal

abbrev pub invariant-loop-i : goal.invariant-loop-i
invariant-loop-i l = l.least ≡ least_cluster (slice_range l.items l.at l.i)
