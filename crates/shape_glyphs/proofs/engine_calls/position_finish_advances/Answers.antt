use Rattle.shape_glyphs.proofs.engine_calls.position_finish_advances.Goals as goal

pub returns : goal.returns
returns g c = c.position_finish_advances.ensures c.args.plan.now.ot_map
