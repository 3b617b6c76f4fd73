use Rattle.std.proofs.Common.{rules}
use Rattle.apple_substitution.specs.Chains.{narrowed}
use Rattle.apple_substitution.proofs.chains.zero_width_deleted.Goals as goal

pub returns : goal.returns
returns c = c.update_positions.ensures narrowed (λ x p q said. search rules)
