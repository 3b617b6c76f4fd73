use Rattle.std.proofs.Common.{refl}
use Rattle.shape_plan.specs.Run.{run_of}
use Rattle.font_shaping.proofs.Hooks.GivenLemmas.{shaper-never}
use Rattle.font_shaping.proofs.each_hook.given_hooks_never_raise.Goals as goal

pub returns : goal.returns
returns g c = λ plan face each.
    let shaper = g.S.hb_ot_shaper_t in
    let layout = g.M.hb_ot_layout_t in
    shaper-never (run_of g.U.hb_unicode_funcs_t.unicode layout.masks layout.lookups shaper.constants shaper.hooks g.F.hb_font_t.face plan face)
    (λ s. shaper.hooks s plan face) plan.shaper refl refl each
