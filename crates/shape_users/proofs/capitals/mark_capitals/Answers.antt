use Rattle.std.proofs.Common.{rules}
use Rattle.shape_buffer.specs.Walks.{items_mapped}
use Rattle.shape_users.specs.Capitals.{capital_marked}
use Rattle.shape_users.proofs.capitals.mark_capitals.Goals as goal

pub returns : goal.returns
unfolding items_mapped
returns c = c.update_items.ensures (capital_marked c.args.mask) (λ x y said. search rules)
