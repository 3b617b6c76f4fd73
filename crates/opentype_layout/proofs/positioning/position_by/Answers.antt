use Rattle.layout_positions.proofs.MadeLemmas.{positioned_made}
use Rattle.opentype_layout.specs.Lookups.{lookups_of}
use Rattle.opentype_layout.specs.Engine.{positioned_by}
use Rattle.opentype_layout.proofs.positioning.position_by.Goals as goal

pub returns : goal.returns
unfolding positioned_by
returns c =
    positioned_made (lookups_of c.args.tables c.args.maps.now) c.apply_each-left.result c.args.buffer.now c.apply_each-left.new.buffer
    c.set_max_ops.new.self c.apply_each-left.ensures c.set_max_ops.ensures
