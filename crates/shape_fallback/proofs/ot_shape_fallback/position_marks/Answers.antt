use Rattle.std.proofs.Common.{ap, ◌∙◌}
use Rattle.shape_fallback.specs.Bases.{without_positions}
use Rattle.shape_fallback.proofs.PreservationLemmas.{bases-marked}
use Rattle.shape_fallback.proofs.ot_shape_fallback.position_marks.Goals as goal

pub returns-clause-marked : goal.returns-clause-marked
returns-clause-marked g c =
    ap without_positions c.position_bases.ensures.made
    ∙ bases-marked (g.F.hb_font_t.face c.args.face.now) c.make_frame-frame.result c.args.buffer.now
