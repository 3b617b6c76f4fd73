use Rattle.std.proofs.Common.{rules}
use Rattle.shape_items.specs.Items.{Item}
use Rattle.apple_positioning.specs.Tables.{loose}
use Rattle.apple_positioning.proofs.tables.free_each.Goals as goal

pub returns : goal.returns
returns c = c.update_positions.ensures (λ (item : Item). loose) (λ x p q said. search rules)
