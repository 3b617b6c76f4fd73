use Rattle.std.proofs.Common.{◌≡◌}
use Rattle.layout_matching.specs.Loops.{times}
use Rattle.layout_context.specs.Places.{Growing, one_grown}
use Rattle.layout_context.proofs.places.grow_some.Given as goal

abbrev pub invariant-loop-i : goal.invariant-loop-i
invariant-loop-i l =
    let here : Growing = record { places = l.places.items; next = l.next } in
    let first : Growing = record { places = l.fn.places.items; next = l.fn.next } in
    here ≡ times (one_grown l.index) l._i first
