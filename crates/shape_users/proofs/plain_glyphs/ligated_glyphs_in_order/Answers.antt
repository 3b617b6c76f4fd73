use Rattle.std.proofs.lemmas.Result.{IfOk-weaker}
use Rattle.shape_users.proofs.PlainLemmas.{stand-in_order}
use Rattle.shape_users.proofs.plain_glyphs.ligated_glyphs_in_order.Goals as goal

pub returns-clause-order : goal.returns-clause-order
returns-clause-order g c =
    let plan = c.args.plan.now in
    let face = c.args.face.now in
    stand-in_order c.args.text c.shape_with_plan.result
    (c.arabic_runs_preserve.ensures.clusters plan face (c.ligatures_preserve.ensures.clusters plan.ot_map face))
    c.requires.monotone c.requires.rising c.shape_with_plan.ensures.ok

pub returns-clause-one_set : goal.returns-clause-one_set
returns-clause-one_set g c =
    let plan = c.args.plan.now in
    let face = c.args.face.now in
    let preserves = c.arabic_runs_preserve.ensures.flags plan face (c.ligatures_preserve.ensures.flags plan.ot_map face) in
    IfOk-weaker c.shape_with_plan.result _ _ (λ glyphs are. (are.flags preserves).one_set) c.shape_with_plan.ensures.ok
