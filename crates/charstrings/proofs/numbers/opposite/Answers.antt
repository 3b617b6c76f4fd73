use Rattle.std.proofs.Common.{rules}
use Rattle.std.proofs.lemmas.Int.{wraps}
use Rattle.charstrings.specs.Numbers.{opposite}
use Rattle.charstrings.proofs.numbers.opposite.Goals as goal

pub returns : goal.returns
unfolding opposite
returns c = search (rules, wraps)
