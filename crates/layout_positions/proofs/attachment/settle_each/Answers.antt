use Rattle.std.proofs.Common.{◌∙◌}
use Rattle.layout_positions.specs.Attachment.{settled, MOST_LINKS}
use Rattle.layout_positions.proofs.SettleLemmas.{each_step}
use Rattle.layout_positions.proofs.attachment.settle_each.Goals as goal

pub loop-i-preserved : goal.loop-i-preserved
loop-i-preserved c = record {
  made = each_step (settled MOST_LINKS) c.loop-i.i c.args.buffer.now c.loop-i.buffer c.settle_at-last.new.buffer
      c.loop-i.invariant.made c.settle_at-last.ensures.made;
  items = c.settle_at-last.ensures.items ∙ c.loop-i.invariant.items;
  measured = c.settle_at-last.ensures.measured;
}
