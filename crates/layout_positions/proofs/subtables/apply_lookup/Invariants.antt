use Rattle.std.proofs.Common.{◌≡◌, None, IfSome, length}
use Rattle.layout_matching.specs.Loops.{times}
use Rattle.layout_positions.specs.Lookups.{stop_after}
use Rattle.layout_positions.specs.Subtables.{Trial, trial_step}
use Rattle.layout_positions.proofs.subtables.apply_lookup.Given as goal

-- the subtables so far have been tried
abbrev pub invariant-loop-k : goal.invariant-loop-k
invariant-loop-k l =
    let here : Trial = record { buffer = l.buffer; next = None; seen = l.carried.seen; left = l.carried.left; subtable = l.k } in
    let first : Trial = record { buffer = l.fn.buffer; next = None; seen = l.fn.carried.seen; left = l.fn.carried.left; subtable = 0 } in
    record {
      made : here ≡ times (trial_step l.indexed.lookup.now l.i) l.k first;
      len : length l.buffer.items ≡ length l.fn.buffer.items;
      known : IfSome l.ahead (λ stop. stop ≡ stop_after l.indexed.lookup.now l.buffer.items l.i);
    }
