use Rattle.shape_users.proofs.PlainLemmas.{stand-in_order}
use Rattle.shape_users.proofs.plain_glyphs.plain_glyphs_in_order.Goals as goal

pub returns : goal.returns
returns g c =
    stand-in_order c.args.text c.shape_with_plan.result (c.plain_runs_have_no_obligations.ensures c.args.plan.now c.args.face.now).clusters
    c.requires.monotone c.requires.rising c.shape_with_plan.ensures.ok
