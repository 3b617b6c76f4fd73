use Rattle.std.proofs.Common.{◌≡◌, ◌++◌, min, take, drop}
use Rattle.shape_buffer.specs.Text.{numbered_from, greatest_cluster}
use Rattle.shape_buffer.proofs.buffer.text.number_clusters.Given as goal

abbrev pub invariant-loop-info : goal.invariant-loop-info
invariant-loop-info l = record {
  cluster : l.cluster ≡ min l.info-index greatest_cluster;
  numbered : l.infos ≡ numbered_from 0 (take l.info-index l.fn.infos) ++ drop l.info-index l.fn.infos;
}
