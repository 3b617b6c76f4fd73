use Rattle.std.proofs.Common.{◌≡◌, length}
use Rattle.shape_items.specs.Buffer.{limit_of}
use Rattle.arabic_stretching.specs.Tiles.{spans_marked_to}
use Rattle.arabic_stretching.proofs.tiles.mark_spans.Given as goal

abbrev pub invariant-loop-i : goal.invariant-loop-i
invariant-loop-i l = record {
  made : l.buffer ≡ spans_marked_to l.i l.fn.buffer;
  len : length l.buffer.items ≡ length l.fn.buffer.items;
  limit : limit_of l.buffer ≡ limit_of l.fn.buffer;
}
