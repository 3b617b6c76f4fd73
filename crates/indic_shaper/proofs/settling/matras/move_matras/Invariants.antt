use Rattle.std.proofs.Common.{◌≡◌, ◌≤◌, ◌+◌, length}
use Rattle.shape_items.specs.Buffer.{limit_of}
use Rattle.indic_shaper.specs.Settling.Matras.{moved_to}
use Rattle.indic_shaper.proofs.settling.matras.move_matras.Given as goal

abbrev pub invariant-loop-k : goal.invariant-loop-k
invariant-loop-k l = record {
  made : (l.buffer, l.place) ≡ moved_to l.until l.to l.k l.fn.buffer;
  least : l.to ≤ l.place + l.k;
  most : l.place ≤ l.to;
  len : length l.buffer.items ≡ length l.fn.buffer.items;
  limit : limit_of l.buffer ≡ limit_of l.fn.buffer;
}
