use Rattle.std.proofs.Common.{refl}
use Rattle.shape_buffer.specs.Walks.{items_mapped}
use Rattle.script_shapers.specs.Hangul.{jamo_masks, jamo_masked, jamo_masked-alone, composed_text}
use Rattle.font_shaping.proofs.Hooks.GivenLemmas.{same-alone, unchanged}
use Rattle.font_shaping.proofs.Hooks.ScriptLemmas.{same-hangul}
use Rattle.font_shaping.proofs.SameWorkLemmas.{never, same-less}
use Rattle.font_shaping.proofs.each_hook.hangul_runs_never_raise.Goals as goal

pub returns : goal.returns
returns g c = λ plan face.
    let meant = g.F.hb_font_t.face face in
    let unicode = g.U.hb_unicode_funcs_t.unicode in
    let masks = jamo_masks (g.M.hb_ot_layout_t.masks plan.ot_map).one_mask in
    c.given_hooks_never_raise.ensures plan face (λ shaper. record {
      preprocess = never (composed_text unicode meant) (same-hangul unicode meant);
      setup_masks = never (items_mapped (jamo_masked masks))
          (λ b. same-alone b (items_mapped (jamo_masked masks) b) (jamo_masked-alone masks b));
      pause = λ n. unchanged;
      postprocess = unchanged;
      reorder = λ b start end. same-less b b refl;
    })
