use Rattle.std.proofs.Common.{◌∙◌, ◌-◌, ap, length}
use Rattle.shape_items.specs.Buffer.{Buffer}
use Rattle.shape_items.proofs.Merging.KeyLemmas.{length-unsafe_to_break}
use Rattle.apple_positioning.proofs.driver.mark.Goals as goal

pub returns-clause-len : goal.returns-clause-len
returns-clause-len c = ap (λ (b : Buffer). length b.items) c.unsafe_to_break.ensures.marked
    ∙ length-unsafe_to_break (c.args.at - 1) c.next_place-end.result c.args.buffer.now
