use Rattle.shape_glyphs.proofs.engine_calls.position_start.Goals as goal

pub returns : goal.returns
returns g c = c.position_start.ensures c.args.plan.now.ot_map
