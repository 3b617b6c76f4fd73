use Rattle.std.proofs.Common.{rules}
use Rattle.shape_glyphs.proofs.engine_calls.track_by_plan.Goals as goal

pub returns-then-apply_trak : goal.returns-then-apply_trak
returns-then-apply_trak g c = let made = c.aat_track.ensures c.args.plan.now.ot_map in search rules
