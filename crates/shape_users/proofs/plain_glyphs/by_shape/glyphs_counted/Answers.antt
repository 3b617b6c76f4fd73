use Rattle.std.proofs.lemmas.Result.{IfOk-weaker, IfErr-weaker}
use Rattle.shape_users.proofs.PlainLemmas.{none_passes, some_passes}
use Rattle.shape_users.proofs.plain_glyphs.by_shape.glyphs_counted.Goals as goal

pub returns-clause-counted : goal.returns-clause-counted
returns-clause-counted g c = λ some.
    IfOk-weaker c.shape.result _ _ (λ glyphs are. none_passes _ c.args.text (are.counted.counted some)) c.shape.ensures.ok

pub returns-clause-length : goal.returns-clause-length
returns-clause-length g c =
    IfErr-weaker c.shape.result _ _ (λ fault past is. some_passes _ c.args.text (past is).past) c.shape.ensures.length
