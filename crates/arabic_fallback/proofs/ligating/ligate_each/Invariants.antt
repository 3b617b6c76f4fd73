use Rattle.std.proofs.Common.{◌≡◌, length}
use Rattle.shape_items.specs.Buffer.{limit_of}
use Rattle.arabic_fallback.specs.Ligating.{ligated_to}
use Rattle.arabic_fallback.proofs.ligating.ligate_each.Given as goal

abbrev pub invariant-loop-at : goal.invariant-loop-at
invariant-loop-at l = record {
  made : record { buffer = l.buffer; next = l.next } ≡ ligated_to l.rule l.rows l.at l.fn.buffer;
  as_many : length l.buffer.items ≡ length l.fn.buffer.items;
  limit : limit_of l.buffer ≡ limit_of l.fn.buffer;
}
