use Rattle.std.proofs.Common.{take, fold}
use Rattle.shape_buffer.specs.Outcome.{Made}
use Rattle.shape_prepare.specs.Ranges.{range_masked}
use Rattle.shape_prepare.proofs.ranges.setup_masks_user.Given as goal

-- the features so far are set
abbrev pub invariant-loop-feature : goal.invariant-loop-feature
invariant-loop-feature g l =
    Made (λ b. fold (range_masked (g.T.Engine.hb_ot_layout_t.masks l.plan.ot_map)) b
    (take l.feature-index l.plan.user_features)) l.fn.buffer l.buffer
