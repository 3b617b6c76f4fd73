use Rattle.std.proofs.Common.{◌≤◌, length, sym, ◌∙◌, arith}
use Rattle.layout_substitution.specs.Ligatures.{Joined}
use Rattle.layout_substitution.proofs.LigatureLemmas.{follow_stops}
use Rattle.layout_substitution.proofs.ligature.follow_all.Goals as goal

pub returns-then-not-follows : goal.returns-then-not-follows
returns-then-not-follows c =
    let n = length c.args.buffer.now.items in
    let first : Joined = record { buffer = c.args.buffer.now; walk = c.args.walk } in
    let s : Joined = record { buffer = c.loop-i.buffer; walk = c.loop-i.walk } in
    let within : c.loop-i._i ≤ n = omega (arith, c.loop-i-test.true, c.len-i-end.ensures.items) in
    sym (follow_stops c.args.id n c.loop-i._i first s within c.loop-i.invariant (sym c.follows.ensures.value ∙ c.if-not-follows.true))
