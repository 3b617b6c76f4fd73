use Rattle.std.proofs.Common.{◌∙◌, ap, arith, length}
use Rattle.script_shapers.specs.Modifiers.{length-modifiers_moved}
use Rattle.script_shapers.proofs.arabic.modifiers.reorder_modifiers.Goals as goal

pub move_modifiers-requires-clause-within : goal.move_modifiers-requires-clause-within
move_modifiers-requires-clause-within c =
    let kept = ap (λ b. length b.items) c.move_modifiers-below.ensures.moved
    ∙ length-modifiers_moved 220 25 c.args.buffer.now c.args.start c.args.end in
    omega (arith, kept, c.requires.within)
