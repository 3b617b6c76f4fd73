use Rattle.std.proofs.Common.{◌≡◌, ◌∙◌, rules, ap}
use Rattle.shape_common.specs.Direction.{is_horizontal}
use Rattle.shape_buffer.specs.PositionWalks.{positions_mapped}
use Rattle.shape_fallback.specs.Spaces.{item_spaced, spaces_placed}
use Rattle.shape_fallback.proofs.ot_shape_fallback.spaces.put_space_advances.Goals as goal

pub returns : goal.returns
unfolding spaces_placed
returns g c =
    let face = g.F.hb_font_t.face c.args.face.now in
    let horizontal = c.is_horizontal-horizontal.result in
    let is : horizontal ≡ is_horizontal c.args.buffer.now.direction = search rules in
    let walked = c.update_positions.ensures (item_spaced face horizontal) (λ x p q said. search rules) in
    record {
      made = walked.made ∙ ap (λ h. positions_mapped (item_spaced face h) c.args.buffer.now) is;
      no_longer = walked.no_longer;
      same_limit = walked.same_limit;
    }
