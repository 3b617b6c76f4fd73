use Rattle.layout_context.proofs.OffWalks.{looked-off}
use Rattle.layout_context.proofs.laws.glyphs_that_are_off_stay.Goals as goal

pub returns : goal.returns
returns c = looked-off
