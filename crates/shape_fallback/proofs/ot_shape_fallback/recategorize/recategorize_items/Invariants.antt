use Rattle.std.proofs.Common.{◌≡◌, map, ◌++◌, take, drop, length}
use Rattle.shape_fallback.specs.Recategorized.{recategorized_item}
use Rattle.shape_fallback.proofs.ot_shape_fallback.recategorize.recategorize_items.Given as goal

abbrev pub invariant-loop-i : goal.invariant-loop-i
invariant-loop-i l = record {
  same_length : length l.buffer.items ≡ length l.fn.buffer.items;
  updated : l.buffer
      ≡ record l.fn.buffer { items = map recategorized_item (take l.i l.fn.buffer.items) ++ drop l.i l.fn.buffer.items };
}
