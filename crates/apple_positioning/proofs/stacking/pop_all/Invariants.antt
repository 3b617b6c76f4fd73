use Rattle.std.proofs.Common.{◌≡◌, ◌-◌, ◌+◌, ◌*◌, ◌≤◌, ◌^◌, false}
use Rattle.shape_items.specs.Buffer.{limit_of}
use Rattle.apple_positioning.specs.Runs.{source_of}
use Rattle.apple_positioning.specs.Stacking.{popped}
use Rattle.apple_positioning.proofs.stacking.pop_all.Given as goal

-- what is popped from here on is what is popped from the start
abbrev pub invariant-loop-i : goal.invariant-loop-i
invariant-loop-i l = record {
  made : popped (source_of l.kerning) l.stack.places (l.stack.depth - l._i) (record { buffer = l.buffer; popping = l.popping })
      ≡ popped (source_of l.kerning) l.stack.places l.stack.depth
      (record { buffer = l.fn.buffer; popping = record { depth = l.stack.depth; at = l.at; has_ended = false } });
  near : l.popping.at ≤ l.at + l._i * 2 ^ 34;
  items : l.buffer.items ≡ l.fn.buffer.items;
  limit : limit_of l.buffer ≡ limit_of l.fn.buffer;
}
