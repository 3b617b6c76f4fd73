use Rattle.std.proofs.Common.{◌∙◌}
use Rattle.shape_plan.proofs.PlannedLemmas.{data-made, shaper-made}
use Rattle.shape_plan.proofs.ot_shape_plan.hb_ot_shape_plan_t.new.Goals as goal

pub returns-clause-data : goal.returns-clause-data
returns-clause-data g c = data-made _ _ _ _ (c.with_shaper.ensures ∙ c.in_ok-plan.ensures.plan)

-- the planner's shaper is the one that was given, or none
pub with_shaper-requires : goal.with_shaper-requires
with_shaper-requires g c =
    shaper-made _ _ _ _ _ _ _ _ _ _ c.new-planner.ensures c.in_ok-collect_features.ensures.ok c.in_ok-plan.ensures.plan
