use Rattle.std.proofs.Common.{◌≡◌, ℕ, drop, length}
use Rattle.shape_items.specs.Spans.{AreSpansInOrder, all_merged}
use Rattle.shape_buffer.proofs.buffer.storage.hb_buffer_t.merge_one_by_one.Given as goal

-- what is left of the spans makes of the buffer what all of them do
abbrev pub invariant-loop-start : goal.invariant-loop-start
invariant-loop-start l = record {
  whole : all_merged (drop l.start-index l.spans) l.self ≡ all_merged l.spans l.fn.self;
  in_order : (from : ℕ) × AreSpansInOrder from (length l.self.items) (drop l.start-index l.spans);
  len : length l.self.items ≡ length l.fn.self.items;
}
