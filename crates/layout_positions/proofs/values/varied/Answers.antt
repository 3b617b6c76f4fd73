use Rattle.std.proofs.Common.{ℕ, ℤ, Option, rules, ap, ◌∙◌, FitsSigned}
use Rattle.std.proofs.lemmas.Int.{to_z-of_z}
use Rattle.font_sizes.specs.declared.scales.Axis.{Axis}
use Rattle.shape_common.specs.Wrapping.{◌+ʷ◌}
use Rattle.layout_positions.specs.Values.{delta_for}
use Rattle.layout_positions.proofs.values.varied.Goals as goal
use mir.Syntax.{w32}

pub returns : goal.returns
returns c =
    let v = c.args.value in
    let delta : Option Axis → ℕ → ℤ = λ axis. delta_for c.args.lookup.now axis c.args.format c.args.base c.args.at in
    let across = c.axis_across-across.result in
    let up = c.axis_up-up.result in
    let x = to_z-of_z w32 c.added.result (search rules) ∙ c.added.ensures
    ∙ ap (λ n. n +ʷ delta across 0x10) (to_z-of_z w32 v.x_placement (search rules))
    ∙ ap (λ axis. v.x_placement +ʷ delta axis 0x10) c.axis_across-across.ensures in
    let y = to_z-of_z w32 c.added-2.result (search rules) ∙ c.added-2.ensures
    ∙ ap (λ n. n +ʷ delta up 0x20) (to_z-of_z w32 v.y_placement (search rules))
    ∙ ap (λ axis. v.y_placement +ʷ delta axis 0x20) c.axis_up-up.ensures in
    let x_advance = to_z-of_z w32 c.added-3.result (search rules) ∙ c.added-3.ensures
    ∙ ap (λ n. n +ʷ delta across 0x40) (to_z-of_z w32 v.x_advance (search rules))
    ∙ ap (λ axis. v.x_advance +ʷ delta axis 0x40) c.axis_across-across.ensures in
    let y_advance = to_z-of_z w32 c.added-4.result (search rules) ∙ c.added-4.ensures
    ∙ ap (λ n. n +ʷ delta up 0x80) (to_z-of_z w32 v.y_advance (search rules))
    ∙ ap (λ axis. v.y_advance +ʷ delta axis 0x80) c.axis_up-up.ensures in
    λ i. record { x_placement = x i; y_placement = y i; x_advance = x_advance i; y_advance = y_advance i; counted = c.counted_with.ensures i }
