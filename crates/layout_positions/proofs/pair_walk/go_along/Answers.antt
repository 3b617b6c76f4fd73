use Rattle.std.proofs.Common.{◌≡◌, ◌+◌, All, ap, sym, subst, ◌∙◌, arith}
use Rattle.layout_matching.specs.Loops.{times}
use Rattle.layout_matching.proofs.LoopLemmas.{times_step}
use Rattle.layout_matching.specs.declared.lookup.Lookup.{Lookup}
use Rattle.layout_positions.specs.Paired.{IsKnownPair}
use Rattle.layout_positions.specs.Walk.{Walk, Budgeted, lookup_step, first_walk}
use Rattle.layout_positions.proofs.DigestLemmas.{gone_further}
use Rattle.layout_positions.proofs.pair_walk.go_along.Goals as goal

pub step_on-spot-requires-clause-known : goal.step_on-spot-requires-clause-known
step_on-spot-requires-clause-known c =
    subst (λ (k : Lookup). All (IsKnownPair k) c.loop-done.known) (sym c.new-indexed.ensures) c.loop-done.invariant.known

pub loop-done-preserved-then-done-count : goal.loop-done-preserved-then-done-count
loop-done-preserved-then-done-count c =
    let step = lookup_step c.args.named.now.lookup in
    let first : Walk = first_walk (record { buffer = c.args.buffer.now; left = c.args.left }) in
    let seen = c.loop-done.spot.carried.seen in
    let left = c.loop-done.spot.carried.left in
    let here : Walk = record { buffer = c.loop-done.buffer; at = c.loop-done.spot.at; seen = seen; left = left } in
    let there : Walk =
    record { buffer = c.loop-done.buffer; at = c.loop-done.spot.at + c.steps_over-steps.result; seen = seen; left = left } in
    let next : Walk = record {
      buffer = c.step_on-spot.new.buffer;
      at = c.step_on-spot.result.at;
      seen = c.step_on-spot.result.carried.seen;
      left = c.step_on-spot.result.carried.left;
    } in
    let on : there ≡ times step (c.loop-done.done + c.steps_over-steps.result) first =
    gone_further step c.steps_over-steps.result c.loop-done.done first here there c.loop-done.invariant.made
    (c.steps_over-steps.ensures.passed seen left) in
    record {
      within = omega (arith, c.if-done-count.true);
      made = times_step step (c.loop-done.done + c.steps_over-steps.result) first there next on
          (subst (λ (k : Lookup). next ≡ lookup_step k there) c.new-indexed.ensures c.step_on-spot.ensures.made);
      known = subst (λ (k : Lookup). All (IsKnownPair k) c.step_on-spot.new.known) c.new-indexed.ensures c.step_on-spot.ensures.known;
    }

pub loop-done-preserved : goal.loop-done-preserved
loop-done-preserved c =
    let step = lookup_step c.args.named.now.lookup in
    let first : Walk = first_walk (record { buffer = c.args.buffer.now; left = c.args.left }) in
    let seen = c.loop-done.spot.carried.seen in
    let left = c.loop-done.spot.carried.left in
    let here : Walk = record { buffer = c.loop-done.buffer; at = c.loop-done.spot.at; seen = seen; left = left } in
    let there : Walk =
    record { buffer = c.loop-done.buffer; at = c.loop-done.spot.at + c.steps_over-steps.result; seen = seen; left = left } in
    record {
      within = omega (arith, c.steps_over-steps.ensures.few, c.loop-done-test.true);
      made = gone_further step c.steps_over-steps.result c.loop-done.done first here there c.loop-done.invariant.made
          (c.steps_over-steps.ensures.passed seen left);
      known = c.loop-done.invariant.known;
    }

pub returns : goal.returns
returns c =
    let view : Walk → Budgeted = λ w. record { buffer = w.buffer; left = w.left } in
    let first : Walk = first_walk (record { buffer = c.args.buffer.now; left = c.args.left }) in
    let all : c.loop-done.done ≡ c.len-count.result = omega (arith, c.loop-done.invariant.within, c.loop-done-test.false) in
    ap view c.loop-done.invariant.made
    ∙ ap (λ n. view (times (lookup_step c.args.named.now.lookup) n first)) (all ∙ c.len-count.ensures.items)
