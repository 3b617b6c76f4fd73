use Rattle.std.proofs.Common.{◌≡◌, ◌-◌, ◌≤◌, ◌++◌, length, take, drop}
use Rattle.shape_items.specs.Unwritten.{written}
use Rattle.shape_items.proofs.clusters.unwritten.write_run.Given as goal

abbrev pub invariant-loop-i : goal.invariant-loop-i
invariant-loop-i l = record {
  within : l.i ≤ length l.fn.infos;
  done : l.infos ≡ take (l.i - 1) l.fn.infos ++ written (drop (l.i - 1) l.fn.infos);
}

abbrev pub decreases-loop-i : goal.decreases-loop-i
decreases-loop-i l = l.i
