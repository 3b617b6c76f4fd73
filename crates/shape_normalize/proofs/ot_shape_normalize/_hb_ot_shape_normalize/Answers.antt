use Rattle.shape_plan.specs.Rules.{rules_of}
use Rattle.shape_normalize.proofs.Normalized.PromiseLemmas.{Normalizes-normalized}
use Rattle.shape_normalize.proofs.Hooks.RulesLemmas.{used_reorder-lawful}
use Rattle.shape_normalize.proofs.ot_shape_normalize._hb_ot_shape_normalize.Goals as goal

pub returns-else-is_err-clause-ok : goal.returns-else-is_err-clause-ok
returns-else-is_err-clause-ok g c =
    let shaper = g.S.hb_ot_shaper_t in
    let rules = rules_of g.U.hb_unicode_funcs_t.unicode shaper.constants shaper.hooks g.F.hb_font_t.face c.args.plan.now c.args.face.now in
    let lawful = used_reorder-lawful shaper.hooks g.met.S.hb_ot_shaper_t.lawful_hooks shaper.constants.has_reorder_marks c.args.plan.now c.args.face.now in
    Normalizes-normalized rules lawful g.met.U.hb_unicode_funcs_t.lawful c.args.buffer.now c.run_rounds-outcome.new.buffer
    c.run_rounds-outcome.result c.run_rounds-outcome.ensures.ok c.run_rounds-outcome.ensures.counted
