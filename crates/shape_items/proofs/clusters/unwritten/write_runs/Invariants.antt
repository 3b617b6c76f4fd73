use Rattle.std.proofs.Common.{◌≡◌, ◌≤◌, ◌++◌, List, length, take, drop}
use Rattle.shape_items.specs.Items.{Item}
use Rattle.shape_items.specs.Unwritten.{UnwrittenRun, StandsFor, stored_runs, written_runs, starts}
use Rattle.shape_items.proofs.clusters.unwritten.write_runs.Given as goal

abbrev pub invariant-loop-count : goal.invariant-loop-count
invariant-loop-count l = record {
  within : l.end ≤ length l.infos;
  counted : l.count ≤ length l.starts;
  left : (given : List Item) → StandsFor l.fn.infos l.starts given
      → (runs : List UnwrittenRun) × (take l.end l.infos ≡ stored_runs runs) × (take l.count l.starts ≡ starts runs)
      × (given ≡ written_runs runs ++ drop l.end l.infos);
}

abbrev pub decreases-loop-count : goal.decreases-loop-count
decreases-loop-count l = l.count
