use Rattle.std.proofs.Common.{rules}
use Rattle.std.proofs.lemmas.Int.{wraps}
use Rattle.charstrings.specs.Numbers.{plus}
use Rattle.charstrings.proofs.numbers.plus.Goals as goal

pub returns : goal.returns
unfolding plus
returns c = search (rules, wraps)
