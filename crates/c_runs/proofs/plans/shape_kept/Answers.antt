use Rattle.std.proofs.Common.{◌∙◌, ap}
use Rattle.shape_pipeline.specs.Shaped.{shaped}
use Rattle.shape_plan.specs.Run.{Run}
use Rattle.c_runs.proofs.PlanLemmas.{found-plan, passes-by}
use Rattle.c_runs.proofs.plans.shape_kept.Goals as goal

pub shape_with_script_plan-requires : goal.shape_with_script_plan-requires
shape_with_script_plan-requires g c =
    let found = found-plan g.U.hb_unicode_funcs_t.unicode _ c.args.features.now c.args.text _ _ c.index-kept.result.now
    c.in_ok-place.ensures.made c.in_ok-place.ensures.place c.index-kept.ensures in
    c.planned_for_text.ensures.fits c.args.face.now c.args.features.now c.args.text c.index-kept.result.now.plan found

pub returns-in-Ok-clause-glyphs : goal.returns-in-Ok-clause-glyphs
returns-in-Ok-clause-glyphs g c =
    let found = found-plan g.U.hb_unicode_funcs_t.unicode _ c.args.features.now c.args.text _ _ c.index-kept.result.now
    c.in_ok-place.ensures.made c.in_ok-place.ensures.place c.index-kept.ensures in
    let same = c.planned_for_text.ensures.runs c.args.face.now c.args.features.now c.args.text c.index-kept.result.now.plan found in
    c.in-Ok.ensures.shaped.ok.glyphs ∙ ap (λ (run : Run). shaped run c.args.text) same

pub returns-in-Ok-clause-within : goal.returns-in-Ok-clause-within
returns-in-Ok-clause-within g c = c.in-Ok.ensures.shaped.ok.within

pub returns-in-Err-clause-length : goal.returns-in-Err-clause-length
returns-in-Err-clause-length g c = λ is.
    let found = found-plan g.U.hb_unicode_funcs_t.unicode _ c.args.features.now c.args.text _ _ c.index-kept.result.now
    c.in_ok-place.ensures.made c.in_ok-place.ensures.place c.index-kept.ensures in
    let same = c.planned_for_text.ensures.runs c.args.face.now c.args.features.now c.args.text c.index-kept.result.now.plan found in
    passes-by c.args.text c.in-Err.ensures.shaped.unicode same (c.in-Err.ensures.shaped.length is)
