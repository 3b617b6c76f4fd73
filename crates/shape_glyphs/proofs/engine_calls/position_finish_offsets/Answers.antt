use Rattle.shape_glyphs.proofs.engine_calls.position_finish_offsets.Goals as goal

pub returns : goal.returns
returns g c = c.position_finish_offsets.ensures c.args.plan.now.ot_map
