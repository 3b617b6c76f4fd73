use Rattle.shape_buffer.proofs.Flags.HonestLemmas.{one_set-propagated, concat-propagated}
use Rattle.shape_glyphs.proofs.flags.propagate_flags.Goals as goal

pub returns-clause-one_set : goal.returns-clause-one_set
returns-clause-one_set c = λ honest. rw c.share_flags.ensures.made (one_set-propagated c.args.buffer.now honest)

pub returns-clause-concat : goal.returns-clause-concat
returns-clause-concat c = λ honest off. rw c.share_flags.ensures.made (concat-propagated c.args.buffer.now honest off)
