use Rattle.std.proofs.Common.{rules}
use Rattle.std.proofs.lemmas.Int.{wraps}
use Rattle.shape_common.specs.Wrapping.{◌-ʷ◌}
use Rattle.shape_common.proofs.wrapping.difference.Goals as goal

pub returns : goal.returns
unfolding ◌-ʷ◌
returns c = search (rules, wraps)
