use Rattle.std.proofs.Common.{◌≡◌, ◌≤◌, length}
use Rattle.shape_items.specs.Buffer.{limit_of}
use Rattle.shape_users.specs.Ligatures.{ligated, singled}
use Rattle.shape_users.proofs.ligatures.substitution.substitute.Given as goal

abbrev pub invariant-loop-i : goal.invariant-loop-i
invariant-loop-i l = record {
  made : l.buffer ≡ ligated l.i (singled l.fn.buffer);
  fewer : length l.buffer.items ≤ length l.fn.buffer.items;
  limit : limit_of l.buffer ≡ limit_of l.fn.buffer;
}
