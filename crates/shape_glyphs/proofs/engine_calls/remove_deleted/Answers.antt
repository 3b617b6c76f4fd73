use Rattle.std.proofs.Common.{rules}
use Rattle.shape_glyphs.proofs.engine_calls.remove_deleted.Goals as goal

pub returns-then-not-apply_gpos : goal.returns-then-not-apply_gpos
returns-then-not-apply_gpos g c = let made = c.aat_remove_deleted.ensures c.args.plan.now.ot_map c.args.face.now in search rules
