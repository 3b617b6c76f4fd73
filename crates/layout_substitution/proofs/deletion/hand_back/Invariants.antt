use Rattle.std.proofs.Common.{◌≡◌}
use Rattle.layout_matching.specs.Loops.{times}
use Rattle.layout_substitution.specs.Applied.{Handing, handed_step}
use Rattle.layout_substitution.proofs.deletion.hand_back.Given as goal

abbrev pub invariant-loop-k : goal.invariant-loop-k
invariant-loop-k l =
    let here : Handing = record { buffer = l.buffer; at = l.at } in
    let first : Handing = record { buffer = l.fn.buffer; at = l.i } in
    here ≡ times (handed_step l.cluster) l._k first
