use Rattle.std.proofs.Common.{refl}
use Rattle.test_fonts.proofs.laws.kerned_runs_have_no_obligations.Goals as goal

pub returns : goal.returns
returns g c = λ plan face.
    c.runs_without_hooks_have_no_obligations.ensures plan face refl (λ shaper. refl) (c.kern_table_preserves.ensures.clusters plan.ot_map face)
    (c.kern_table_preserves.ensures.flags plan.ot_map face)
