use Rattle.std.proofs.Common.{◌≡◌, ◌+◌, ◌-◌, ◌∙◌, ap, arith, length}
use Rattle.script_shapers.specs.Modifiers.{reclassed, stepped_before, brought_before-next, length-reclassed, length-stepped_before}
use Rattle.script_shapers.proofs.arabic.modifiers.bring_before.Goals as goal

pub reclass-requires : goal.reclass-requires
reclass-requires c =
    let k = c.loop-brought.brought in
    let kept = ap (λ b. length b.items) c.step_before.ensures
    ∙ length-stepped_before (c.args.place + k) (c.args.from + k - (c.args.place + k)) c.loop-brought.buffer in
    omega (arith, kept, c.loop-brought.invariant.len, c.loop-brought-test.true, c.requires.ordered, c.requires.within)

pub loop-brought-preserved : goal.loop-brought-preserved
loop-brought-preserved c =
    let k = c.loop-brought.brought in
    let stepped = stepped_before (c.args.place + k) (c.args.from + k - (c.args.place + k)) c.loop-brought.buffer in
    let is : c.reclass.new.buffer ≡ reclassed c.args.ccc (c.args.place + k) stepped = c.reclass.ensures
    ∙ ap (reclassed c.args.ccc (c.args.place + k)) c.step_before.ensures in
    record {
      left = brought_before-next c.args.ccc c.args.place c.args.from c.args.end k c.loop-brought.buffer c.reclass.new.buffer
          c.requires.ordered.0 (omega (arith, c.loop-brought-test.true, c.requires.ordered)) is ∙ c.loop-brought.invariant.left;
      len = ap (λ b. length b.items) is ∙ (length-reclassed c.args.ccc (c.args.place + k) stepped
          ∙ (length-stepped_before (c.args.place + k) (c.args.from + k - (c.args.place + k)) c.loop-brought.buffer
          ∙ c.loop-brought.invariant.len));
    }
