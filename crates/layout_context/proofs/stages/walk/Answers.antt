use Rattle.std.proofs.Common.{◌≡◌, ◌+◌, ◌<◌, true, false, length, ap, subst, ◌∙◌, arith}
use Rattle.layout_matching.specs.Loops.{times}
use Rattle.layout_matching.specs.declared.lookup.Lookup.{Lookup}
use Rattle.layout_matching.proofs.LoopLemmas.{times_step}
use Rattle.layout_substitution.specs.Edits.{asks_for_concat, is_past}
use Rattle.layout_context.specs.Nested.{nested_applied}
use Rattle.layout_context.specs.Stages.{Walk, first_walk, lookup_step}
use Rattle.layout_context.proofs.DigestLemmas.{gone_further}
use Rattle.layout_context.proofs.StageLemmas.{past_times}
use Rattle.layout_context.proofs.stages.walk.Goals as goal

pub returns-in-Err-clause-length : goal.returns-in-Err-clause-length
returns-in-Err-clause-length c =
    let l = c.args.named.now.lookup in
    let n = length c.args.buffer.now.items in
    let first : Walk = first_walk (record { buffer = c.args.buffer.now; spot = c.args.spot }) in
    let here : Walk = record { buffer = c.loop-done.buffer; spot = c.loop-done.spot } in
    let there : Walk = record { buffer = c.loop-done.buffer; spot = c.pass_over-passed.result.spot } in
    let on : there ≡ times (lookup_step (nested_applied c.args.levels l) l) (c.loop-done.done + c.pass_over-passed.result.steps) first =
    gone_further (lookup_step (nested_applied c.args.levels l) l) c.pass_over-passed.result.steps c.loop-done.done first here there
    c.loop-done.invariant.made (c.pass_over-passed.ensures.passed c.args.levels) in
    let more : c.loop-done.done + c.pass_over-passed.result.steps < n = omega (arith, c.pass_over-passed.ensures.more c.if-passed.true, c.len-count.ensures.items) in
    λ is. past_times (nested_applied c.args.levels l) l n (c.loop-done.done + c.pass_over-passed.result.steps) first there more on
    (subst (λ (k : Lookup). is_past (lookup_step (nested_applied c.args.levels k) k there).buffer ≡ true) c.with_sets-indexed.ensures
    (c.in-Err.ensures.length is))

pub loop-done-preserved-then-passed : goal.loop-done-preserved-then-passed
loop-done-preserved-then-passed c =
    let l = c.args.named.now.lookup in
    let first : Walk = first_walk (record { buffer = c.args.buffer.now; spot = c.args.spot }) in
    let here : Walk = record { buffer = c.loop-done.buffer; spot = c.loop-done.spot } in
    let there : Walk = record { buffer = c.loop-done.buffer; spot = c.pass_over-passed.result.spot } in
    let next : Walk = record { buffer = c.step_met.new.buffer; spot = c.in-Ok.next.spot } in
    let on : there ≡ times (lookup_step (nested_applied c.args.levels l) l) (c.loop-done.done + c.pass_over-passed.result.steps) first =
    gone_further (lookup_step (nested_applied c.args.levels l) l) c.pass_over-passed.result.steps c.loop-done.done first here there
    c.loop-done.invariant.made (c.pass_over-passed.ensures.passed c.args.levels) in
    record {
      within = omega (arith, c.pass_over-passed.ensures.more c.if-passed.true, c.loop-done-test.true);
      made = times_step (lookup_step (nested_applied c.args.levels l) l) (c.loop-done.done + c.pass_over-passed.result.steps) first there next on
          (subst (λ (k : Lookup). next ≡ lookup_step (nested_applied c.args.levels k) k there) c.with_sets-indexed.ensures c.in-Ok.ensures.ok);
      unasked = λ is. c.loop-done.invariant.unasked (c.both_kept-is_kept.ensures.before is);
      kept = λ is.
          let before = c.both_kept-is_kept.ensures.before is in
          let unasked : asks_for_concat c.loop-done.buffer ≡ false =
          ap asks_for_concat (c.loop-done.invariant.kept before) ∙ c.loop-done.invariant.unasked before in
          c.in-Ok.ensures.kept (c.both_kept-is_kept.ensures.now is) unasked ∙ c.loop-done.invariant.kept before;
    }

pub loop-done-preserved : goal.loop-done-preserved
loop-done-preserved c =
    let l = c.args.named.now.lookup in
    let first : Walk = first_walk (record { buffer = c.args.buffer.now; spot = c.args.spot }) in
    let here : Walk = record { buffer = c.loop-done.buffer; spot = c.loop-done.spot } in
    let there : Walk = record { buffer = c.loop-done.buffer; spot = c.pass_over-passed.result.spot } in
    record {
      within = omega (arith, c.pass_over-passed.ensures.few, c.loop-done-test.true);
      made = gone_further (lookup_step (nested_applied c.args.levels l) l) c.pass_over-passed.result.steps c.loop-done.done first here there
          c.loop-done.invariant.made (c.pass_over-passed.ensures.passed c.args.levels);
      unasked = c.loop-done.invariant.unasked;
      kept = c.loop-done.invariant.kept;
    }
