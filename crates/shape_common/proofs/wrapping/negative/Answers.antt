use Rattle.std.proofs.Common.{rules}
use Rattle.std.proofs.lemmas.Int.{wraps}
use Rattle.shape_common.specs.Wrapping.{neg_w}
use Rattle.shape_common.proofs.wrapping.negative.Goals as goal

pub returns : goal.returns
unfolding neg_w
returns c = search (rules, wraps)
