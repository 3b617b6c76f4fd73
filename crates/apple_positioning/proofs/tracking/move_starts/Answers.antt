use Rattle.std.proofs.Common.{rules}
use Rattle.apple_positioning.specs.Tracking.{start_moved}
use Rattle.apple_positioning.proofs.tracking.move_starts.Goals as goal

pub returns : goal.returns
returns c = c.update_positions.ensures (start_moved c.args.spacing c.args.mask) (λ x p q said. search rules)
