use Rattle.std.proofs.Common.{◌≡◌, ◌<◌, ◌≤◌, length}
use Rattle.shape_items.specs.Buffer.{limit_of}
use Rattle.indic_shaper.specs.Settling.Bases.{below_to}
use Rattle.indic_shaper.proofs.settling.base.skip_below.Given as goal

abbrev pub invariant-loop-k : goal.invariant-loop-k
invariant-loop-k l = record {
  made : (l.buffer, l.below) ≡ below_to l.base l.end l.k l.fn.buffer;
  before : l.below.base < l.below.from;
  to : l.below.from ≤ l.end;
  grows : l.base ≤ l.below.base;
  len : length l.buffer.items ≡ length l.fn.buffer.items;
  limit : limit_of l.buffer ≡ limit_of l.fn.buffer;
}
