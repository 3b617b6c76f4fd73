use Rattle.std.proofs.Common.{refl}
use Rattle.shape_normalize.proofs.Hooks.RulesLemmas.{used_reorder-lawful}
use Rattle.shape_pipeline.proofs.CanonicalLemmas.{list_is_canonical}
use Rattle.shape_pipeline.proofs.FlagRunLemmas.{flags-run_made}
use Rattle.shape_pipeline.proofs.ClusterRunLemmas.{made-by_calls, made-in_the_end}
use Rattle.shape_pipeline.proofs.RunLemmas.{normal_form}
use Rattle.shape_pipeline.proofs.laws.whole_runs_keep_promises.Goals as goal

pub returns-clause-clusters : goal.returns-clause-clusters
returns-clause-clusters g c = λ text known.
    let shaper = g.S.hb_ot_shaper_t in
    let lawful = used_reorder-lawful shaper.hooks g.met.S.hb_ot_shaper_t.lawful_hooks shaper.constants.has_reorder_marks c.args.plan.now c.args.face.now in
    made-by_calls _ text.direction known lawful text refl

pub returns-clause-ends_in_order : goal.returns-clause-ends_in_order
returns-clause-ends_in_order g c = λ text planned.
    let shaper = g.S.hb_ot_shaper_t in
    let lawful = used_reorder-lawful shaper.hooks g.met.S.hb_ot_shaper_t.lawful_hooks shaper.constants.has_reorder_marks c.args.plan.now c.args.face.now in
    made-in_the_end _ text.direction lawful text planned

pub returns-clause-flags : goal.returns-clause-flags
returns-clause-flags g c = λ target text preserves.
    let shaper = g.S.hb_ot_shaper_t in
    let lawful = used_reorder-lawful shaper.hooks g.met.S.hb_ot_shaper_t.lawful_hooks shaper.constants.has_reorder_marks c.args.plan.now c.args.face.now in
    let masks = g.met.M.hb_ot_layout_t.lawful_masks c.args.plan.now.ot_map in
    flags-run_made _ target lawful masks c.masks_are_features.ensures preserves text text refl

pub returns-clause-form : goal.returns-clause-form
returns-clause-form g c = λ text.
    let shaper = g.S.hb_ot_shaper_t in
    let lawful = used_reorder-lawful shaper.hooks g.met.S.hb_ot_shaper_t.lawful_hooks shaper.constants.has_reorder_marks c.args.plan.now c.args.face.now in
    normal_form _ lawful g.met.U.hb_unicode_funcs_t.lawful text

pub returns-clause-canonical : goal.returns-clause-canonical
returns-clause-canonical g c = λ text.
    let shaper = g.S.hb_ot_shaper_t in
    let layout = g.M.hb_ot_layout_t in
    list_is_canonical g.U.hb_unicode_funcs_t.unicode layout.masks layout.lookups shaper.constants shaper.hooks g.F.hb_font_t.face
    c.args.plan.now c.args.face.now g.met.U.hb_unicode_funcs_t.lawful text
