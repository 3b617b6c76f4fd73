use Rattle.std.proofs.Common.{◌≡◌}
use Rattle.layout_matching.specs.Loops.{times}
use Rattle.layout_context.specs.Places.{one_dropped}
use Rattle.layout_context.proofs.places.drop_some.Given as goal

abbrev pub invariant-loop-i : goal.invariant-loop-i
invariant-loop-i l = l.places.items ≡ times (one_dropped l.index) l._i l.fn.places.items
