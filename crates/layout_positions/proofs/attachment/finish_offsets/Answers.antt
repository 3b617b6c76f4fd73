use Rattle.layout_positions.proofs.MadeLemmas.{finished_made}
use Rattle.layout_positions.proofs.attachment.finish_offsets.Goals as goal

pub returns : goal.returns
returns c = finished_made c.args.buffer.now c.settle_each.new.buffer c.settle_each.ensures.made
