use Rattle.std.proofs.Common.{◌≡◌, ◌≤◌, ◌++◌, List, length, take, drop}
use Rattle.shape_items.specs.Items.{Item}
use Rattle.shape_items.specs.Spans.{AreSpansInOrder, merge_each}
use Rattle.shape_items.specs.Unwritten.{StandsFor}
use Rattle.shape_items.proofs.clusters.each_span.merge_each.Given as goal

-- the items stand for a list of which the spans that are left make what all of them make of the first
abbrev pub invariant-loop-start : goal.invariant-loop-start
invariant-loop-start l = record {
  runs : l.runs ≤ l.kept;
  within : l.kept ≤ length l.infos;
  as_many : length l.infos ≡ length l.fn.infos;
  room : length l.starts ≡ length l.fn.starts;
  in_order : AreSpansInOrder l.kept (length l.infos) (drop l.start-index l.spans);
  left : (given : List Item) × StandsFor (take l.kept l.infos) (take l.runs l.starts) given
      × (merge_each (drop l.start-index l.spans) (given ++ drop l.kept l.infos) ≡ merge_each l.spans l.fn.infos);
}
