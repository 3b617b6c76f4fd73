use Rattle.shape_pipeline.proofs.PremiseLemmas.{clusters-not_given, flags-not_given}
use Rattle.shape_pipeline.proofs.laws.hooks_not_given_preserve.Goals as goal

pub returns-clause-clusters : goal.returns-clause-clusters
returns-clause-clusters g c = λ plan face.
    let shaper = g.S.hb_ot_shaper_t in
    let layout = g.M.hb_ot_layout_t in
    clusters-not_given g.U.hb_unicode_funcs_t.unicode layout.masks layout.lookups shaper.constants shaper.hooks g.F.hb_font_t.face plan face

pub returns-clause-flags : goal.returns-clause-flags
returns-clause-flags g c = λ plan face.
    let shaper = g.S.hb_ot_shaper_t in
    let layout = g.M.hb_ot_layout_t in
    flags-not_given g.U.hb_unicode_funcs_t.unicode layout.masks layout.lookups shaper.constants shaper.hooks g.F.hb_font_t.face plan face
