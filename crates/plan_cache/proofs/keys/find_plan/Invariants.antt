use Rattle.plan_cache.specs.Keys.{NoneKept}
use Rattle.plan_cache.proofs.keys.find_plan.Given as goal

abbrev pub invariant-loop-place : goal.invariant-loop-place
invariant-loop-place g l = NoneKept g.U.hb_unicode_funcs_t.unicode l.plans l.place l.face l.features l.text
