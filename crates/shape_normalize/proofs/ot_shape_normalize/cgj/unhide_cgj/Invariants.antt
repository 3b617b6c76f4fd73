use Rattle.std.proofs.Common.{◌≡◌, ◌-◌, ◌++◌, take, drop, length}
use Rattle.shape_normalize.specs.RoundTwo.{cgj_unhidden}
use Rattle.shape_normalize.proofs.ot_shape_normalize.cgj.unhide_cgj.Given as goal

-- the items before place i - 1 are done, and a walk over what is left gives what the whole walk gives
abbrev pub invariant-loop-i : goal.invariant-loop-i
invariant-loop-i l = record {
  items : l.buffer ≡ record l.fn.buffer { items = l.buffer.items };
  walk : take (l.i - 1) l.buffer.items ++ cgj_unhidden (drop (l.i - 1) l.buffer.items) ≡ cgj_unhidden l.fn.buffer.items;
  same_length : length l.buffer.items ≡ length l.fn.buffer.items;
}
