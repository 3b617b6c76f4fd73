use Rattle.shape_users.proofs.PlainLemmas.{plain-form}
use Rattle.shape_users.proofs.plain_glyphs.plain_glyphs_formed.Goals as goal

pub returns : goal.returns
returns g c =
    plain-form c.args.text c.shape_with_plan.result (c.plain_runs_have_no_obligations.ensures c.args.plan.now c.args.face.now).canonical c.shape_with_plan.ensures.ok
