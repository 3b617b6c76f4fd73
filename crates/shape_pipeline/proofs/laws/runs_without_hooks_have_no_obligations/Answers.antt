use Rattle.shape_pipeline.proofs.PremiseLemmas.{has_no_obligations}
use Rattle.shape_pipeline.proofs.laws.runs_without_hooks_have_no_obligations.Goals as goal

pub returns : goal.returns
returns g c = λ plan face.
    let shaper = g.S.hb_ot_shaper_t in
    let layout = g.M.hb_ot_layout_t in
    has_no_obligations g.U.hb_unicode_funcs_t.unicode layout.masks layout.lookups shaper.constants shaper.hooks g.F.hb_font_t.face plan face g.met.U.hb_unicode_funcs_t.lawful
