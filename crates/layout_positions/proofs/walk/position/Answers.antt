use Rattle.layout_positions.specs.Digested.{lookups_in}
use Rattle.layout_positions.proofs.MadeLemmas.{positioned_made}
use Rattle.layout_positions.proofs.walk.position.Goals as goal

pub returns : goal.returns
returns c =
    positioned_made (lookups_in c.args.lookups.now) c.apply_each-left.result c.args.buffer.now c.apply_each-left.new.buffer
    c.set_max_ops.new.self c.apply_each-left.ensures c.set_max_ops.ensures
