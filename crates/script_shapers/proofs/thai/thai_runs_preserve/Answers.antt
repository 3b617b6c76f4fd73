use Rattle.std.proofs.Common.{None, refl, inl, inr}
use Rattle.shape_buffer.specs.declared.interfaces.map_request.TableIndex.TheVariants.{GSUB}
use Rattle.script_shapers.specs.ThaiForms.{forms_due}
use Rattle.script_shapers.proofs.ThaiFormLemmas.{thai_text-clusters, thai_text-flags}
use Rattle.script_shapers.proofs.thai.thai_runs_preserve.Goals as goal

pub returns-clause-clusters : goal.returns-clause-clusters
returns-clause-clusters g c = λ plan face preserve.
    let due = forms_due plan.script ((g.M.hb_ot_layout_t.layout face).chosen_script plan.script None GSUB) in
    c.given_hooks_preserve.ensures.clusters plan face
    (λ shaper. record {
      preprocess = inr (thai_text-clusters due (g.F.hb_font_t.face face));
      postprocess = inl refl;
      pause = inl refl;
    }) preserve (λ reorder given. cc)

pub returns-clause-flags : goal.returns-clause-flags
returns-clause-flags g c = λ plan face.
    let due = forms_due plan.script ((g.M.hb_ot_layout_t.layout face).chosen_script plan.script None GSUB) in
    c.given_hooks_preserve.ensures.flags plan face
    (λ shaper. record {
      preprocess = inr (thai_text-flags due (g.F.hb_font_t.face face));
      setup_masks = inl refl;
      postprocess = inl refl;
      pause = inl refl;
    })
