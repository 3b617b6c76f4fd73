use Rattle.std.proofs.Common.{ℤ, to_z, of_z, rules, ◌≡◌, ◌+◌, ap, ◌∙◌}
use Rattle.std.proofs.lemmas.Int.{to_z-of_z}
use Rattle.shape_font.specs.Bytes.{u16_of}
use Rattle.layout_positions.specs.Anchors.{moved, point_at}
use Rattle.layout_positions.specs.Devices.{delta_by}
use Rattle.layout_positions.specs.Sizes.{axis_across, axis_up}
use Rattle.layout_positions.specs.declared.anchors.Anchor.{Anchor}
use Rattle.layout_positions.proofs.anchors.varied_point.Goals as goal
use mir.Syntax.{w32}

pub returns : goal.returns
returns c =
    let l = c.args.lookup.now in
    let at = c.args.start in
    let t = l.table.now in
    let x : ℤ = delta_by l (axis_across l) at (u16_of t (at + 6)) in
    let y : ℤ = delta_by l (axis_up l) at (u16_of t (at + 8)) in
    let x_is = to_z-of_z w32 c.delta_by-x_delta.result (search rules) ∙ c.delta_by-x_delta.ensures
    ∙ ap (λ axis. delta_by l axis at c.u16_at-x_device.result) c.axis_across.ensures
    ∙ ap (delta_by l (axis_across l) at) c.u16_at-x_device.ensures in
    let y_is = to_z-of_z w32 c.delta_by-y_delta.result (search rules) ∙ c.delta_by-y_delta.ensures
    ∙ ap (λ axis. delta_by l axis at c.u16_at-y_device.result) c.axis_up.ensures
    ∙ ap (delta_by l (axis_up l) at) c.u16_at-y_device.ensures in
    c.moved.ensures ∙ ap (λ n. moved l c.point-point.result n (to_z w32 (of_z w32 c.delta_by-y_delta.result))) x_is
    ∙ ap (λ n. moved l c.point-point.result x n) y_is
    ∙ ap (λ (a : Anchor). moved l a x y) c.point-point.ensures
