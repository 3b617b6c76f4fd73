use Rattle.std.proofs.Common.{◌≡◌, ◌-◌, length}
use Rattle.cluster_order.proofs.OrderedLemmas.{joined_from}
use Rattle.cluster_order.proofs.join_ahead.Given as goal

abbrev pub invariant-loop-done : goal.invariant-loop-done
invariant-loop-done l = record {
  same_length : length l.buffer.items ≡ length l.fn.buffer.items;
  len : l.len ≡ length l.fn.buffer.items;
  joined : l.buffer ≡ record l.fn.buffer { items = joined_from (l.len - l.done) l.fn.buffer.items };
}
