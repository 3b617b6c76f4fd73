-- the plan that is made is kept behind those that are there, or nothing is
use Rattle.c_runs.proofs.PlanLemmas.{still-made, still-kept}
use Rattle.c_runs.proofs.plans.plan_place.Goals as goal

pub returns-clause-made : goal.returns-clause-made
returns-clause-made g c =
    still-made _ _ _ _ _ _ _ c.in_ok-plan.ensures.plan (c.make_room.ensures.made _ c.requires) _ c.keep_plan.ensures.kept c.keep_plan.ensures.refused

pub returns-clause-place : goal.returns-clause-place
returns-clause-place g c = still-kept _ (λ _ _ _ _. c.in_ok-plan.plan) _ _ _ _ _ _ c.keep_plan.ensures.kept
