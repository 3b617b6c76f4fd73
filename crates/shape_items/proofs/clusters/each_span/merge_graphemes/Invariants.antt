use Rattle.std.proofs.Common.{◌≡◌, ◌≤◌, ◌++◌, List, length, map, take, drop}
use Rattle.shape_items.specs.Clusters.{merge}
use Rattle.shape_items.specs.GraphemeSpans.{is_continuation, grapheme_spans}
use Rattle.shape_items.specs.Items.{Item}
use Rattle.shape_items.specs.Spans.{merge_each}
use Rattle.shape_items.specs.Unwritten.{StandsFor}
use Rattle.shape_items.proofs.MergingInOrder.GraphemeWalkLemmas.{left_to_do}
use Rattle.shape_items.proofs.clusters.each_span.merge_graphemes.Given as goal

-- the items stand for a list of which the rest of the walk makes what the whole walk makes of the first
abbrev pub invariant-loop-last : goal.invariant-loop-last
invariant-loop-last l = record {
  runs : l.runs ≤ l.kept;
  within : l.kept ≤ l.start;
  ordered : l.start ≤ l.last;
  as_many : length l.infos ≡ length l.fn.infos;
  room : length l.starts ≡ length l.fn.starts;
  bits : drop l.last (map is_continuation l.infos) ≡ drop l.last (map is_continuation l.fn.infos);
  left : (given : List Item) × StandsFor (take l.kept l.infos) (take l.runs l.starts) given
      × (left_to_do merge l.start l.last (drop l.last (map is_continuation l.fn.infos)) (given ++ drop l.kept l.infos)
      ≡ merge_each (grapheme_spans l.fn.infos) l.fn.infos);
}
