use Rattle.shape_users.specs.Words.{NoneFits}
use Rattle.shape_users.proofs.words.find_plan.Given as goal

abbrev pub invariant-loop-place : goal.invariant-loop-place
invariant-loop-place g l = NoneFits g.U.hb_unicode_funcs_t.unicode l.plans l.place l.text
