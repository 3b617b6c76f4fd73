use Rattle.std.proofs.Common.{◌≡◌, ◌++◌, map, take, drop}
use Rattle.shape_items.specs.Clusters.{mark_tatweel}
use Rattle.shape_items.proofs.clusters.mark_all_tatweel.Given as goal

abbrev pub invariant-loop-info : goal.invariant-loop-info
invariant-loop-info l = l.infos ≡ map (mark_tatweel l.least) (take l.info-index l.fn.infos) ++ drop l.info-index l.fn.infos
