use Rattle.std.proofs.Common.{◌≡◌, List, take, fold, length, subst, ap, arith}
use Rattle.std.proofs.lemmas.List.{take_all}
use Rattle.shape_buffer.specs.Outcome.{Made}
use Rattle.shape_common.specs.declared.text_types.Feature.{Feature}
use Rattle.shape_prepare.specs.Ranges.{range_masked, ranges_masked}
use Rattle.shape_prepare.proofs.ranges.setup_masks_user.Goals as goal

pub returns : goal.returns
unfolding ranges_masked
returns g c =
    let features = c.args.plan.now.user_features in
    let as_many = ap length c.user_features-feature-items.ensures in
    let all : take c.loop-feature.feature-index features ≡ features = take_all c.loop-feature.feature-index features (omega arith) in
    let P : List Feature
    → Type 0 = λ some. Made (λ b. fold (range_masked
    (g.T.Engine.hb_ot_layout_t.masks c.args.plan.now.ot_map)) b some) c.args.buffer.now c.loop-feature.buffer in
    subst P all c.loop-feature.invariant
