use Rattle.std.proofs.Common.{◌≡◌, true, false, rules, ap}
use Rattle.shape_common.specs.Direction.{is_horizontal}
use Rattle.shape_buffer.specs.PositionWalks.{positions_mapped}
use Rattle.shape_glyphs.specs.Advances.{advanced, advanced_position}
use Rattle.shape_glyphs.proofs.StepLemmas.{Made-as}
use Rattle.shape_glyphs.proofs.advances.put_advances.Goals as goal

pub returns-then-is_horizontal : goal.returns-then-is_horizontal
unfolding advanced
returns-then-is_horizontal g c =
    let face = g.F.hb_font_t.face c.args.face.now in
    let is : true ≡ is_horizontal c.args.buffer.now.direction = search rules in
    Made-as (advanced face) c.put_h_advances.ensures
    (ap (λ h. positions_mapped (advanced_position face h) c.args.buffer.now) is)

pub returns-else-is_horizontal : goal.returns-else-is_horizontal
unfolding advanced
returns-else-is_horizontal g c =
    let face = g.F.hb_font_t.face c.args.face.now in
    let is : false ≡ is_horizontal c.args.buffer.now.direction = search rules in
    Made-as (advanced face) (c.update_positions.ensures (advanced_position face false) (λ x p q said. search rules))
    (ap (λ h. positions_mapped (advanced_position face h) c.args.buffer.now) is)
