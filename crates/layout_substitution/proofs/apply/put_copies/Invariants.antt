use Rattle.std.proofs.Common.{◌≡◌, ◌+◌, length}
use Rattle.shape_items.specs.Buffer.{limit_of}
use Rattle.layout_matching.specs.Loops.{times}
use Rattle.layout_substitution.specs.Applied.{Copying, copy_put}
use Rattle.layout_substitution.proofs.apply.put_copies.Given as goal

abbrev pub invariant-loop-i : goal.invariant-loop-i
invariant-loop-i l =
    let here : Copying = record { buffer = l.buffer; k = l.k } in
    let first : Copying = record { buffer = l.fn.buffer; k = l.n } in
    record {
      made : here ≡ times (copy_put l.lookup l.list l.at l.there) l._i first;
      len : length l.buffer.items ≡ length l.fn.buffer.items + l._i;
      limit : limit_of l.buffer ≡ limit_of l.fn.buffer;
    }
