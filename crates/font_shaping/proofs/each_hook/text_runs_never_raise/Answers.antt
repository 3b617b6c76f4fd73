use Rattle.shape_pipeline.specs.Planned.{planned_for}
use Rattle.font_shaping.proofs.each_hook.text_runs_never_raise.Goals as goal

pub returns : goal.returns
returns g c = λ each face shaper features text.
    each (planned_for g.U.hb_unicode_funcs_t.unicode (record {
      faces = g.F.hb_font_t.face;
      layouts = g.M.hb_ot_layout_t.layout;
      masks = g.M.hb_ot_layout_t.masks;
      constants = g.S.hb_ot_shaper_t.constants;
      collected = g.S.hb_ot_shaper_t.collected;
      overriding = g.S.hb_ot_shaper_t.overriding;
      made_data = g.S.hb_ot_shaper_t.made_data;
    }) face shaper features text) face
