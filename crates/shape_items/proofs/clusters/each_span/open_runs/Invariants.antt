use Rattle.std.proofs.Common.{◌≡◌, ◌≤◌, ◌++◌, List, length, take, slice_range}
use Rattle.shape_items.specs.Items.{Item}
use Rattle.shape_items.specs.Unwritten.{StandsFor}
use Rattle.shape_items.proofs.clusters.each_span.open_runs.Given as goal

abbrev pub invariant-loop-i : goal.invariant-loop-i
invariant-loop-i l = record {
  runs : l.count ≤ l.i;
  as_many : length l.starts ≡ length l.fn.starts;
  stands : (given : List Item) → StandsFor (take l.kept l.infos) (take l.runs l.fn.starts) given
      → StandsFor (take l.i l.infos) (take l.count l.starts) (given ++ slice_range l.infos l.kept l.i);
}
