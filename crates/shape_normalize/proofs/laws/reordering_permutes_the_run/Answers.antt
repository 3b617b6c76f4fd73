use Rattle.shape_normalize.proofs.Hooks.ReorderedLemmas.{ReordersRun-steps}
use Rattle.shape_normalize.proofs.laws.reordering_permutes_the_run.Goals as goal

pub returns : goal.returns
returns g c =
    let shaper = g.S.hb_ot_shaper_t in
    let hooks = shaper.hooks c.args.shaper.now c.args.plan.now c.args.face.now in
    let obligations = g.met.S.hb_ot_shaper_t.lawful_hooks c.args.shaper.now c.args.plan.now c.args.face.now in
    λ b start end run. ReordersRun-steps start end b (hooks.reorder b start end) run (obligations.reorders.reorders b start end run)
