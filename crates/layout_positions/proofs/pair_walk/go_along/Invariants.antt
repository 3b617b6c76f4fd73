use Rattle.std.proofs.Common.{◌≡◌, ◌≤◌, ◌-◌, All}
use Rattle.layout_matching.specs.Loops.{times}
use Rattle.layout_positions.specs.Paired.{IsKnownPair}
use Rattle.layout_positions.specs.Walk.{Walk, lookup_step, first_walk}
use Rattle.layout_positions.proofs.pair_walk.go_along.Given as goal

abbrev pub invariant-loop-done : goal.invariant-loop-done
invariant-loop-done l =
    let here : Walk = record { buffer = l.buffer; at = l.spot.at; seen = l.spot.carried.seen; left = l.spot.carried.left } in record {
      within : l.done ≤ l.count;
      made : here ≡ times (lookup_step l.named.lookup) l.done (first_walk (record { buffer = l.fn.buffer; left = l.fn.left }));
      known : All (IsKnownPair l.named.lookup) l.known;
    }

abbrev pub decreases-loop-done : goal.decreases-loop-done
decreases-loop-done l = l.count - l.done
