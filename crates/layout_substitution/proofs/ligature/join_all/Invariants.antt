use Rattle.std.proofs.Common.{◌≡◌}
use Rattle.layout_matching.specs.Loops.{times}
use Rattle.layout_substitution.specs.Ligatures.{Joined, join_step}
use Rattle.layout_substitution.proofs.ligature.join_all.Given as goal

abbrev pub invariant-loop-i : goal.invariant-loop-i
invariant-loop-i l =
    let here : Joined = record { buffer = l.buffer; walk = l.walk } in
    let first : Joined = record { buffer = l.fn.buffer; walk = l.fn.walk } in
    here ≡ times (join_step l.lookup l.made) l._i first
