use Rattle.std.proofs.lemmas.Result.{IfErr-weaker}
use Rattle.shape_users.proofs.PlainLemmas.{plain-glyphs, given_back}
use Rattle.shape_users.proofs.plain_glyphs.plain_glyphs.Goals as goal

pub returns-clause-ok : goal.returns-clause-ok
returns-clause-ok g c =
    plain-glyphs c.args.text c.shape_with_plan.result (c.plain_runs_have_no_obligations.ensures c.args.plan.now c.args.face.now).flags c.shape_with_plan.ensures.ok

pub returns-clause-refused : goal.returns-clause-refused
returns-clause-refused g c =
    IfErr-weaker c.shape_with_plan.result _ _ (λ fault is. given_back c.args.text fault.buffer is) c.shape_with_plan.ensures.cleared
