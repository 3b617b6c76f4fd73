use Rattle.shape_pipeline.proofs.PremiseLemmas.{clusters-by_hook, flags-by_hook, equivalence-by_hook}
use Rattle.shape_pipeline.proofs.laws.given_hooks_preserve.Goals as goal

pub returns-clause-clusters : goal.returns-clause-clusters
returns-clause-clusters g c = λ plan face.
    let shaper = g.S.hb_ot_shaper_t in
    let layout = g.M.hb_ot_layout_t in
    clusters-by_hook g.U.hb_unicode_funcs_t.unicode layout.masks layout.lookups shaper.constants shaper.hooks g.F.hb_font_t.face plan face
    (λ s. g.met.S.hb_ot_shaper_t.lawful_hooks s plan face)

pub returns-clause-flags : goal.returns-clause-flags
returns-clause-flags g c = λ plan face.
    let shaper = g.S.hb_ot_shaper_t in
    let layout = g.M.hb_ot_layout_t in
    flags-by_hook g.U.hb_unicode_funcs_t.unicode layout.masks layout.lookups shaper.constants shaper.hooks g.F.hb_font_t.face plan face

pub returns-clause-equivalence : goal.returns-clause-equivalence
returns-clause-equivalence g c = λ plan face.
    let shaper = g.S.hb_ot_shaper_t in
    let layout = g.M.hb_ot_layout_t in
    equivalence-by_hook g.U.hb_unicode_funcs_t.unicode layout.masks layout.lookups shaper.constants shaper.hooks g.F.hb_font_t.face plan face g.met.U.hb_unicode_funcs_t.lawful
