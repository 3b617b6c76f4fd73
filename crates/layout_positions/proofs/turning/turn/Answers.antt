use Rattle.std.proofs.Common.{◌+◌, ◌<◌, ◌≤◌, length, sym, ap, subst, ◌∙◌, arith}
use Rattle.layout_matching.proofs.LoopLemmas.{times_step}
use Rattle.layout_positions.specs.Turning.{Turn, turn_step, first_turn}
use Rattle.layout_positions.proofs.TurnLemmas.{turn_on, turned_still}
use Rattle.layout_positions.proofs.turning.turn.Goals as goal

pub returns-in-None-clause-made : goal.returns-in-None-clause-made
returns-in-None-clause-made c =
    let here : Turn = record { buffer = c.loop-i.buffer; at = c.loop-i.at; was = c.loop-i.was; links = c.loop-i.i } in
    let n = c.len-count.result in
    let within : c.loop-i.i ≤ n = omega (arith, c.loop-i-test.true) in
    ap (λ (s : Turn). s.buffer) (turned_still n c.loop-i.i c.args.child c.args.end c.args.buffer.now here
    (c.len-count.ensures.items ∙ ap length c.free.ensures.items) within c.loop-i.invariant.made (sym c.in-None.ensures.value))

pub returns-in-None-clause-links : goal.returns-in-None-clause-links
returns-in-None-clause-links c =
    let here : Turn = record { buffer = c.loop-i.buffer; at = c.loop-i.at; was = c.loop-i.was; links = c.loop-i.i } in
    let n = c.len-count.result in
    let within : c.loop-i.i ≤ n = omega (arith, c.loop-i-test.true) in
    ap (λ (s : Turn). s.links) (turned_still n c.loop-i.i c.args.child c.args.end c.args.buffer.now here
    (c.len-count.ensures.items ∙ ap length c.free.ensures.items) within c.loop-i.invariant.made (sym c.in-None.ensures.value))

pub loop-i-preserved : goal.loop-i-preserved
loop-i-preserved c =
    let first : Turn = first_turn c.args.child c.args.buffer.now in
    let here : Turn = record { buffer = c.loop-i.buffer; at = c.loop-i.at; was = c.loop-i.was; links = c.loop-i.i } in
    let there : Turn =
    record { buffer = c.turn_at-was.new.buffer; at = c.in-Some.j; was = c.turn_at-was.result; links = c.loop-i.i + 1 } in
    record {
      made = times_step (turn_step c.args.end) c.loop-i.i first here there c.loop-i.invariant.made
          (c.turn_at-was.ensures.made c.loop-i.i ∙ sym (turn_on c.args.end c.in-Some.j here (sym c.in-Some.ensures.value)));
      inside = subst (λ xs. c.in-Some.j < length xs) (sym c.turn_at-was.ensures.items) c.in-Some.ensures.inside;
      items = c.turn_at-was.ensures.items ∙ c.loop-i.invariant.items;
    }
