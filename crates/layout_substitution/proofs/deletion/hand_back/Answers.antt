use Rattle.std.proofs.Common.{◌≤◌, sym, ◌∙◌, arith}
use Rattle.layout_substitution.specs.Applied.{Handing}
use Rattle.layout_substitution.proofs.CopyLemmas.{handed_stops}
use Rattle.layout_substitution.proofs.deletion.hand_back.Goals as goal

pub returns-then-not-is_handed : goal.returns-then-not-is_handed
returns-then-not-is_handed c =
    let n = c.args.i in
    let first : Handing = record { buffer = c.args.buffer.now; at = c.args.i } in
    let s : Handing = record { buffer = c.loop-k.buffer; at = c.loop-k.at } in
    let within : c.loop-k._k ≤ n = omega (arith, c.loop-k-test.true) in
    sym (handed_stops c.args.cluster n c.loop-k._k first s within c.loop-k.invariant (sym c.is_handed.ensures.value ∙ c.if-not-is_handed.true))
