use Rattle.std.proofs.Common.{◌∙◌, inl, inr}
use Rattle.std.proofs.lemmas.Result.{IfOk-weaker, IfErr-weaker}
use Rattle.shape_users.proofs.PlainLemmas.{plan_of}
use Rattle.shape_users.proofs.plain_glyphs.glyphs_of_str.Goals as goal

pub returns-in-Ok-clause-glyphs : goal.returns-in-Ok-clause-glyphs
returns-in-Ok-clause-glyphs g c = rw (← c.in-Ok.ensures.text) c.shape.ensures.ok

pub returns-in-Ok-clause-length : goal.returns-in-Ok-clause-length
returns-in-Ok-clause-length g c = rw (← c.in-Ok.ensures.text)
    (IfErr-weaker c.shape.result _ _ (λ fault passes is. inr (passes is)) c.shape.ensures.length)

pub returns-in-Ok-clause-of_string : goal.returns-in-Ok-clause-of_string
returns-in-Ok-clause-of_string g c =
    let obligations = c.plain_runs_have_no_obligations.ensures (plan_of _ _ _ _ _) c.args.face.now in
    IfOk-weaker c.shape.result _ _
    (λ glyphs are. c.strings_keep_promises.ensures.glyphs _ c.args.string.now c.in-Ok.text glyphs c.in-Ok.ensures.ok are
    (inl obligations.clusters) obligations.flags)
    c.shape.ensures.ok

pub returns-in-Ok-clause-refused : goal.returns-in-Ok-clause-refused
returns-in-Ok-clause-refused g c =
    IfErr-weaker c.shape.result _ _ (λ fault is. is ∙ c.strings_keep_promises.ensures.cleared c.args.string.now c.in-Ok.text c.in-Ok.ensures.ok)
    c.shape.ensures.cleared
