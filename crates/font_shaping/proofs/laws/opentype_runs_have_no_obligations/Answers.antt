use Rattle.std.proofs.Common.{refl}
use Rattle.font_shaping.proofs.laws.opentype_runs_have_no_obligations.Goals as goal

pub returns : goal.returns
returns g c = λ plan face.
    c.runs_without_hooks_have_no_obligations.ensures plan face refl (λ shaper. refl)
    (c.opentype_layout_preserves.ensures.clusters plan.ot_map face) (c.opentype_layout_preserves.ensures.flags plan.ot_map face)
