use Rattle.std.proofs.Common.{◌≡◌, length}
use Rattle.shape_items.specs.Buffer.{limit_of}
use Rattle.letter_joining.specs.Flags.{marked_to, begun_walk}
use Rattle.letter_joining.proofs.flags.mark_all.Given as goal

abbrev pub invariant-loop-i : goal.invariant-loop-i
invariant-loop-i l = record {
  made : (l.buffer, l.walk) ≡ marked_to (begun_walk l.fn.buffer) l.i l.fn.buffer;
  len : length l.buffer.items ≡ length l.fn.buffer.items;
  limit : limit_of l.buffer ≡ limit_of l.fn.buffer;
}
