use Rattle.std.proofs.Common.{◌≡◌, length}
use Rattle.shape_items.specs.Buffer.{limit_of}
use Rattle.arabic_fallback.specs.Ligating.{joined_to}
use Rattle.arabic_fallback.proofs.ligating.join_to.Given as goal

abbrev pub invariant-loop-i : goal.invariant-loop-i
invariant-loop-i l = record {
  made : l.buffer ≡ joined_to l.made l.i l.fn.buffer;
  as_many : length l.buffer.items ≡ length l.fn.buffer.items;
  limit : limit_of l.buffer ≡ limit_of l.fn.buffer;
}
