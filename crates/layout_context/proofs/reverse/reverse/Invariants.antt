use Rattle.std.proofs.Common.{◌≡◌, ◌≤◌, length}
use Rattle.layout_matching.specs.Loops.{times}
use Rattle.layout_context.specs.Reverse.{Backwards, reverse_step}
use Rattle.layout_context.proofs.reverse.reverse.Given as goal

abbrev pub invariant-loop-i : goal.invariant-loop-i
invariant-loop-i l =
    let here : Backwards = record { buffer = l.buffer; at = l.back.at; left = l.back.left } in
    let first : Backwards = record { buffer = l.fn.buffer; at = length l.fn.buffer.items; left = l.fn.left } in
    record {
      made : here ≡ times (reverse_step l.lookup) l._i first;
      inside : l.back.at ≤ length l.buffer.items;
    }
