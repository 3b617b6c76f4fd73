use Rattle.std.proofs.Common.{◌≡◌, ◌≤◌, length}
use Rattle.shape_items.specs.Buffer.{limit_of}
use Rattle.myanmar_shaper.specs.Turning.{turned_to}
use Rattle.myanmar_shaper.proofs.turning.turn_groups.Given as goal

abbrev pub invariant-loop-k : goal.invariant-loop-k
invariant-loop-k l = record {
  made : (l.buffer, l.from) ≡ turned_to l.start l.k l.fn.buffer;
  before : l.from ≤ l.k;
  len : length l.buffer.items ≡ length l.fn.buffer.items;
  limit : limit_of l.buffer ≡ limit_of l.fn.buffer;
}
