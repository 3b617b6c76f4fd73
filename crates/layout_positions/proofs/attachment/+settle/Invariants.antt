use Rattle.layout_positions.proofs.attachment.+settle.Given as goal

abbrev pub decreases-settle : goal.decreases-settle
decreases-settle l = l.level
