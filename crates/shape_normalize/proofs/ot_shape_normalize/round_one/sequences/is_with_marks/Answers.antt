use Rattle.std.proofs.Common.{rules}
use Rattle.shape_normalize.proofs.RoundOne.SelectorLemmas.{is_with_marks-length}
use Rattle.shape_normalize.proofs.ot_shape_normalize.round_one.sequences.is_with_marks.Goals as goal

pub returns : goal.returns
returns c = rw (is_with_marks-length c.args.sequence.now) (search rules)
