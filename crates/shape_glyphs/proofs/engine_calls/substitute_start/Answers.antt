use Rattle.shape_glyphs.proofs.engine_calls.substitute_start.Goals as goal

pub returns : goal.returns
returns g c = c.substitute_start.ensures c.args.plan.now.ot_map
