use Rattle.std.proofs.Common.{◌≡◌, ◌-◌, ◌≤◌, ℕ, drop, length}
use Rattle.shape_items.specs.Spans.{AreSpansInOrder, spans_merged_out}
use Rattle.shape_normalize.proofs.ot_shape_normalize.round_three.merge_composed.Given as goal

-- what is left of the spans makes of the buffer what all of them do
abbrev pub invariant-loop-merged : goal.invariant-loop-merged
invariant-loop-merged l = record {
  within : l.merged ≤ length l.spans;
  whole : spans_merged_out (drop l.merged l.spans) l.buffer ≡ spans_merged_out l.spans l.fn.buffer;
  in_order : (from : ℕ) × AreSpansInOrder from (length l.buffer.items) (drop l.merged l.spans);
}

abbrev pub decreases-loop-merged : goal.decreases-loop-merged
decreases-loop-merged l = length l.spans - l.merged
