use Rattle.std.proofs.Common.{ap, ◌∙◌, length}
use Rattle.syllabic.proofs.MovingLemmas.{length-reversed}
use Rattle.syllabic.proofs.moving.reverse.Goals as goal

pub returns-clause-len : goal.returns-clause-len
returns-clause-len c =
    ap (λ b. length b.items) c.reverse_range.ensures
    ∙ length-reversed c.args.start c.args.end c.args.buffer.now c.requires.ordered c.requires.within
