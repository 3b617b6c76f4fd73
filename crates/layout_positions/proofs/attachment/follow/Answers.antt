use Rattle.layout_positions.proofs.WayLemmas.{measured_carried, measured_hung}
use Rattle.layout_positions.proofs.attachment.follow.Goals as goal

pub returns-then-here-eq-CURSIVE_ATTACHED-clause-measured : goal.returns-then-here-eq-CURSIVE_ATTACHED-clause-measured
returns-then-here-eq-CURSIVE_ATTACHED-clause-measured c =
    measured_carried c.args.i c.is_horizontal.result c.position-there.result c.position-here.result c.carried_by.result c.args.buffer.now
    c.put.new.buffer c.args.last c.put.ensures.made c.carried_by.ensures c.position-here.ensures c.requires.last

pub returns-then-is_short-clause-measured : goal.returns-then-is_short-clause-measured
returns-then-is_short-clause-measured c =
    measured_hung c.args.i c.is_forward.result c.way_between-measured.result.pen c.position-there.result c.position-here.result
    c.hung.result c.args.buffer.now c.put-2.new.buffer c.args.last c.put-2.ensures.made c.hung.ensures c.position-here.ensures c.requires.last

pub returns-else-is_short-clause-measured : goal.returns-else-is_short-clause-measured
returns-else-is_short-clause-measured c =
    measured_hung c.args.i c.is_forward.result c.way_between-measured.result.pen c.position-there.result c.position-here.result
    c.hung.result c.args.buffer.now c.put-2.new.buffer c.way_between-measured.result c.put-2.ensures.made c.hung.ensures c.position-here.ensures
    c.way_between-measured.ensures.measured
