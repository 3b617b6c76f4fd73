use Rattle.std.proofs.Common.{refl}
use Rattle.shape_users.proofs.ligatures.ligature_runs_have_no_obligations.Goals as goal

pub returns : goal.returns
returns g c = λ plan face.
    c.runs_without_hooks_have_no_obligations.ensures plan face refl (λ shaper. refl) (c.ligatures_preserve.ensures.clusters plan.ot_map face)
    (c.ligatures_preserve.ensures.flags plan.ot_map face)
