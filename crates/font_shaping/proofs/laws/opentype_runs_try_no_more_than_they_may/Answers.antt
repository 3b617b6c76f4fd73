use Rattle.std.proofs.Common.{refl}
use Rattle.font_shaping.proofs.RunTriesLemmas.{hooks-never}
use Rattle.font_shaping.proofs.laws.opentype_runs_try_no_more_than_they_may.Goals as goal

pub returns : goal.returns
returns g c = λ plan face.
    c.runs_try_no_more_than_they_may.ensures.within plan.ot_map face _ refl
    (hooks-never _ g.U.hb_unicode_funcs_t.unicode plan.shaper refl (c.opentype_runs_have_no_obligations.ensures plan face).no_reordering)
