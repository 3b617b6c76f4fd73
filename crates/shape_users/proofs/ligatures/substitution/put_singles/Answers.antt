use Rattle.std.proofs.Common.{rules}
use Rattle.shape_buffer.specs.Walks.{items_mapped}
use Rattle.shape_users.specs.Ligatures.{single}
use Rattle.shape_users.proofs.ligatures.substitution.put_singles.Goals as goal

pub returns : goal.returns
unfolding items_mapped
returns c = c.update_items.ensures single (λ x y said. search rules)
