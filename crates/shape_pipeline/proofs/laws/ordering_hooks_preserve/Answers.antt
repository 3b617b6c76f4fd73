use Rattle.shape_pipeline.proofs.PremiseLemmas.{clusters-in_the_end}
use Rattle.shape_pipeline.proofs.laws.ordering_hooks_preserve.Goals as goal

pub returns : goal.returns
returns g c = λ plan face.
    let shaper = g.S.hb_ot_shaper_t in
    let layout = g.M.hb_ot_layout_t in
    clusters-in_the_end g.U.hb_unicode_funcs_t.unicode layout.masks layout.lookups shaper.constants shaper.hooks g.F.hb_font_t.face plan face
    (λ s. g.met.S.hb_ot_shaper_t.lawful_hooks s plan face)
