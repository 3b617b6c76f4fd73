use Rattle.std.proofs.Common.{◌≡◌, length}
use Rattle.shape_items.specs.Buffer.{limit_of}
use Rattle.shape_users.specs.Signs.{stepped_to}
use Rattle.shape_users.proofs.signs.step_signs.Given as goal

abbrev pub invariant-loop-i : goal.invariant-loop-i
invariant-loop-i l = record {
  made : l.buffer ≡ stepped_to l.i l.fn.buffer;
  len : length l.buffer.items ≡ length l.fn.buffer.items;
  limit : limit_of l.buffer ≡ limit_of l.fn.buffer;
}
