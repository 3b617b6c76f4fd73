use Rattle.std.proofs.Common.{rules}
use Rattle.layout_positions.specs.Walk.{unattached}
use Rattle.layout_positions.proofs.walk.position_start.Goals as goal

pub returns : goal.returns
returns c = c.update_positions.ensures (λ x p. unattached p) (λ x p q said. search rules)
