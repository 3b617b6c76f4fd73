use Rattle.std.proofs.Common.{◌≡◌, ◌++◌, map, take, drop}
use Rattle.shape_items.specs.Items.{put_in}
use Rattle.shape_items.proofs.clusters.put_all_in.Given as goal

abbrev pub invariant-loop-info : goal.invariant-loop-info
invariant-loop-info l = l.infos ≡ map (put_in l.cluster) (take l.info-index l.fn.infos) ++ drop l.info-index l.fn.infos
