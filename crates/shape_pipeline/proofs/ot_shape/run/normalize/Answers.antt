use Rattle.shape_normalize.proofs.Hooks.RulesLemmas.{used_reorder-lawful}
use Rattle.shape_plan.specs.Rules.{rules_of}
use Rattle.shape_pipeline.proofs.RunLemmas.{outcome-normalised}
use Rattle.shape_pipeline.proofs.ot_shape.run.normalize.Goals as goal

pub returns : goal.returns
returns g c =
    let shaper = g.T.Shaper.hb_ot_shaper_t in
    let rules = rules_of g.T.Unicode.hb_unicode_funcs_t.unicode shaper.constants shaper.hooks g.T.Face.hb_font_t.face c.args.plan.now c.args.face.now in
    let lawful = used_reorder-lawful shaper.hooks g.met.T.Shaper.hb_ot_shaper_t.lawful_hooks shaper.constants.has_reorder_marks c.args.plan.now c.args.face.now in
    let normalised = c._hb_ot_shape_normalize.ensures in
    outcome-normalised rules lawful c.args.buffer.now c._hb_ot_shape_normalize.new.buffer c._hb_ot_shape_normalize.result normalised.ok normalised.length
