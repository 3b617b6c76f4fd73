use Rattle.std.proofs.Common.{rules}
use Rattle.shape_glyphs.proofs.engine_calls.zero_width_deleted.Goals as goal

pub returns-then-apply_morx : goal.returns-then-apply_morx
returns-then-apply_morx g c = let made = c.aat_zero_width_deleted.ensures c.args.plan.now.ot_map c.args.face.now in search rules
