use Rattle.std.proofs.Common.{refl, inl, inr}
use Rattle.script_shapers.proofs.HangulLemmas.{composing_preserves_clusters, composing_preserves_flags}
use Rattle.script_shapers.proofs.JamoLemmas.{flags-jamo}
use Rattle.script_shapers.proofs.hangul.hangul_runs_preserve.Goals as goal

pub returns-clause-clusters : goal.returns-clause-clusters
returns-clause-clusters g c = λ plan face preserve.
    c.given_hooks_preserve.ensures.clusters plan face
    (λ shaper. record {
      preprocess = inr (composing_preserves_clusters g.U.hb_unicode_funcs_t.unicode (g.F.hb_font_t.face face));
      postprocess = inl refl;
      pause = inl refl;
    }) preserve (λ reorder given. cc)

pub returns-clause-flags : goal.returns-clause-flags
returns-clause-flags g c = λ plan face.
    let mask = (g.M.hb_ot_layout_t.masks plan.ot_map).one_mask in
    c.given_hooks_preserve.ensures.flags plan face
    (λ shaper. record {
      preprocess = inr (composing_preserves_flags g.U.hb_unicode_funcs_t.unicode (g.F.hb_font_t.face face));
      setup_masks = inr (flags-jamo mask (g.met.M.hb_ot_layout_t.lawful_masks plan.ot_map).one_mask);
      postprocess = inl refl;
      pause = inl refl;
    })
