use Rattle.shape_normalize.proofs.Hooks.LawfulLemmas.{lawful-unasked, reorder-unasked}
use Rattle.shape_normalize.proofs.laws.hooks_not_given_are_lawful.Goals as goal

pub returns-clause-lawful : goal.returns-clause-lawful
returns-clause-lawful g c =
    let shaper = g.S.hb_ot_shaper_t in
    lawful-unasked g.U.hb_unicode_funcs_t.unicode shaper.constants shaper.hooks g.F.hb_font_t.face c.args.plan.now c.args.face.now g.met.U.hb_unicode_funcs_t.lawful

pub returns-clause-no_reordering : goal.returns-clause-no_reordering
returns-clause-no_reordering g c =
    let shaper = g.S.hb_ot_shaper_t in
    reorder-unasked g.U.hb_unicode_funcs_t.unicode shaper.constants shaper.hooks g.F.hb_font_t.face c.args.plan.now c.args.face.now
