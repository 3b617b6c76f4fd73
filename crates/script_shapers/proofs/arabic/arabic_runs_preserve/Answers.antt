use Rattle.std.proofs.Common.{refl, inl, inr}
use Rattle.script_shapers.specs.Modifiers.{modifiers_reordered}
use Rattle.script_shapers.proofs.HookLemmas.{shaper-preserves}
use Rattle.script_shapers.proofs.ModifierLemmas.{modifiers_preserve_runs}
use Rattle.letter_joining.specs.Features.{is_mongolian}
use Rattle.arabic_fallback.specs.Classes.{class_by}
use Rattle.letter_joining.proofs.FlagLemmas.{flags-joined}
use Rattle.arabic_stretching.proofs.PreservationLemmas.{stretched-order, stretched-flags}
use Rattle.script_shapers.proofs.ArabicPauseLemmas.{pause-order, pause-flags}
use Rattle.script_shapers.proofs.arabic.arabic_runs_preserve.Goals as goal

pub returns-clause-clusters : goal.returns-clause-clusters
returns-clause-clusters g c = λ plan face preserve.
    let map = g.M.hb_ot_layout_t.masks plan.ot_map in
    let classes = class_by (g.M.hb_ot_layout_t.layout face).has_glyph_classes (g.M.hb_ot_layout_t.lookups plan.ot_map face).substitute_start in
    c.given_hooks_preserve.ensures.clusters plan face
    (λ shaper. record {
      preprocess = inl refl;
      postprocess = inr (stretched-order (g.F.hb_font_t.face face));
      pause = inr (λ lives i n within is. pause-order n map (g.F.hb_font_t.face face) classes);
    }) preserve
    (shaper-preserves modifiers_reordered modifiers_preserve_runs _ (λ shaper. refl) plan.shaper)

pub returns-clause-flags : goal.returns-clause-flags
returns-clause-flags g c = λ plan face.
    let map = g.M.hb_ot_layout_t.masks plan.ot_map in
    let mask = map.one_mask in
    let classes = class_by (g.M.hb_ot_layout_t.layout face).has_glyph_classes (g.M.hb_ot_layout_t.lookups plan.ot_map face).substitute_start in
    c.given_hooks_preserve.ensures.flags plan face
    (λ shaper. record {
      preprocess = inl refl;
      setup_masks = inr (flags-joined mask (g.met.M.hb_ot_layout_t.lawful_masks plan.ot_map).one_mask (is_mongolian plan.script));
      postprocess = inr (stretched-flags (g.F.hb_font_t.face face));
      pause = inr (λ lives i n within is. pause-flags n map (g.F.hb_font_t.face face) classes);
    })
