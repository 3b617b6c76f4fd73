use Rattle.std.proofs.Common.{◌≡◌, length}
use Rattle.shape_items.specs.Clusters.{map_range, mark_break}
use Rattle.layout_positions.proofs.flagged.break_others.Given as goal

abbrev pub invariant-loop-i : goal.invariant-loop-i
invariant-loop-i l = record {
  made : l.buffer ≡ record l.fn.buffer { items = map_range (mark_break l.cluster) l.start l.i l.fn.buffer.items };
  len : length l.buffer.items ≡ length l.fn.buffer.items;
}
