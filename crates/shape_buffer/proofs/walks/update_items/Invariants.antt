use Rattle.std.proofs.Common.{◌≡◌, map, ◌++◌, take, drop, length}
use Rattle.std.specs.Fn.{FnReturnsAt}
use Rattle.shape_items.specs.Items.{Item}
use Rattle.shape_buffer.proofs.walks.update_items.Given as goal

abbrev pub invariant-loop-i : goal.invariant-loop-i
invariant-loop-i g l = record {
  same_length : length l.buffer.items ≡ length l.fn.buffer.items;
  updated : (f : Item → Item) → ((x y : Item) → FnReturnsAt g.C.Fn l.change x y → y ≡ f x)
      → l.buffer ≡ record l.fn.buffer { items = map f (take l.i l.fn.buffer.items) ++ drop l.i l.fn.buffer.items };
}
