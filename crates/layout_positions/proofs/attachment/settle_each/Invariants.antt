use Rattle.std.proofs.Common.{◌≡◌}
use Rattle.layout_positions.specs.Attachment.{settled, each, MOST_LINKS}
use Rattle.layout_positions.specs.Ways.{IsMeasured}
use Rattle.layout_positions.proofs.attachment.settle_each.Given as goal

abbrev pub invariant-loop-i : goal.invariant-loop-i
invariant-loop-i l = record {
  made : l.buffer ≡ each (settled MOST_LINKS) l.i l.fn.buffer;
  items : l.buffer.items ≡ l.fn.buffer.items;
  measured : IsMeasured l.buffer l.last;
}
