use Rattle.std.proofs.Common.{◌≡◌, length}
use Rattle.shape_items.specs.Buffer.{limit_of}
use Rattle.myanmar_shaper.specs.Places.{placed_to}
use Rattle.myanmar_shaper.proofs.places.place_first.Given as goal

abbrev pub invariant-loop-k : goal.invariant-loop-k
invariant-loop-k l = record {
  made : (l.buffer, l.placing) ≡ placed_to l.frame l.start l.k l.fn.buffer;
  len : length l.buffer.items ≡ length l.fn.buffer.items;
  limit : limit_of l.buffer ≡ limit_of l.fn.buffer;
}
