use Rattle.std.proofs.Common.{rules}
use Rattle.apple_substitution.specs.Noncontextual.{substituted}
use Rattle.apple_substitution.proofs.noncontextual.substitute_each.Goals as goal

pub returns : goal.returns
returns c = c.update_items.ensures (substituted c.args.subtable.now) (λ x y said. search rules)
