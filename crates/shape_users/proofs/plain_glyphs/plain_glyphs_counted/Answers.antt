use Rattle.std.proofs.lemmas.Result.{IfOk-weaker, IfErr-weaker}
use Rattle.shape_users.proofs.PlainLemmas.{none_passes, some_passes}
use Rattle.shape_users.proofs.plain_glyphs.plain_glyphs_counted.Goals as goal

pub returns-clause-counted : goal.returns-clause-counted
returns-clause-counted g c = λ some.
    IfOk-weaker c.shape_with_plan.result _ _ (λ glyphs are. none_passes _ c.args.text (are.counted.counted some)) c.shape_with_plan.ensures.ok

pub returns-clause-length : goal.returns-clause-length
returns-clause-length g c =
    IfErr-weaker c.shape_with_plan.result _ _ (λ fault past is. some_passes _ c.args.text (past is).past) c.shape_with_plan.ensures.length
