use Rattle.std.proofs.Common.{rules}
use Rattle.layout_substitution.specs.Start.{begun_item, begun}
use Rattle.layout_substitution.proofs.start.begin_substitution.Goals as goal

pub returns : goal.returns
unfolding begun
returns c = c.update_items.ensures (begun_item c.args.gdef.now) (λ x y said. search rules)
