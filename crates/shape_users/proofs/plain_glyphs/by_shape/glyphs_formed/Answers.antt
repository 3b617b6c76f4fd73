use Rattle.shape_users.proofs.PlainLemmas.{plain-form, plan_of}
use Rattle.shape_users.proofs.plain_glyphs.by_shape.glyphs_formed.Goals as goal

pub returns : goal.returns
returns g c =
    plain-form c.args.text c.shape.result (c.plain_runs_have_no_obligations.ensures (plan_of _ _ _ _ _) c.args.face.now).canonical c.shape.ensures.ok
