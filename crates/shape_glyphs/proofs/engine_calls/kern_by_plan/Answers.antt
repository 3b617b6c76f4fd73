use Rattle.std.proofs.Common.{rules}
use Rattle.shape_glyphs.proofs.engine_calls.kern_by_plan.Goals as goal

pub returns-then-apply_kern : goal.returns-then-apply_kern
returns-then-apply_kern g c = let made = c.kern.ensures c.args.plan.now.ot_map in search rules
