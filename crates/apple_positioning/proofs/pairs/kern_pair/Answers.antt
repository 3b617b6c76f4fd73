use Rattle.std.proofs.Common.{◌∙◌, ap, length, to_z, of_z, w32}
use Rattle.shape_items.specs.Buffer.{Buffer}
use Rattle.apple_positioning.specs.Runs.{source_of}
use Rattle.apple_positioning.proofs.PairLemmas.{length_pair_moved}
use Rattle.apple_positioning.proofs.pairs.kern_pair.Goals as goal

pub returns-clause-len : goal.returns-clause-len
returns-clause-len c = ap (λ (b : Buffer). length b.items) c.put_value.ensures
    ∙ length_pair_moved (source_of c.args.kerning.now) c.args.i c.args.j (to_z w32 (of_z w32 c.kerning-value.result)) c.args.buffer.now
