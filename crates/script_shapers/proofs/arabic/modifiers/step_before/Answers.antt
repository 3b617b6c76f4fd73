use Rattle.std.proofs.Common.{◌-◌, ◌∙◌, ap, arith, length}
use Rattle.std.proofs.lemmas.List.Edits.{length-swap}
use Rattle.script_shapers.specs.Modifiers.{stepped_before-next}
use Rattle.script_shapers.proofs.arabic.modifiers.step_before.Goals as goal

pub loop-stepped-preserved : goal.loop-stepped-preserved
loop-stepped-preserved c = record {
  left = stepped_before-next c.args.place c.args.from c.loop-stepped.stepped c.loop-stepped.buffer c.exchange.new.buffer
      (omega (arith, c.loop-stepped-test.true, c.requires.ordered)) c.exchange.ensures ∙ c.loop-stepped.invariant.left;
  len = ap (λ b. length b.items) c.exchange.ensures
      ∙ (length-swap c.loop-stepped.buffer.items (c.args.from - c.loop-stepped.stepped - 1) (c.args.from - c.loop-stepped.stepped)
      ∙ c.loop-stepped.invariant.len);
}
