use Rattle.std.proofs.Common.{◌≡◌, ◌-◌, length, take, drop, min}
use Rattle.std.specs.Str.{chars}
use Rattle.shape_buffer.proofs.buffer.context.Context.from_end.Given as goal

abbrev pub invariant-loop-c : goal.invariant-loop-c
invariant-loop-c l = record {
  value : l.context ≡ drop (length l.yielded - 5) (take (length l.yielded) (chars l.text));
  size : length l.context ≡ l.kept;
  count : l.kept ≡ min 5 (length l.yielded);
}
