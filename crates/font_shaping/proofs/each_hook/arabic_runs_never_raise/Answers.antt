use Rattle.arabic_fallback.specs.Classes.{class_by}
use Rattle.arabic_stretching.specs.Stretching.{stretched}
use Rattle.letter_joining.specs.Features.{is_mongolian}
use Rattle.letter_joining.specs.Flags.{joined, joined-alone}
use Rattle.letter_joining.specs.Forms.{masks_by}
use Rattle.script_shapers.specs.Modifiers.{modifiers_reordered}
use Rattle.font_shaping.proofs.Hooks.ArabicLemmas.{less-arabic_pause, same-modifiers, same-stretched}
use Rattle.font_shaping.proofs.Hooks.GivenLemmas.{same-alone, unchanged}
use Rattle.font_shaping.proofs.SameWorkLemmas.{never, same-less}
use Rattle.font_shaping.proofs.each_hook.arabic_runs_never_raise.Goals as goal

pub returns : goal.returns
returns g c = λ plan face.
    let map = g.M.hb_ot_layout_t.masks plan.ot_map in
    let lookups = g.M.hb_ot_layout_t.lookups plan.ot_map face in
    let meant = g.F.hb_font_t.face face in
    let classes = class_by (g.M.hb_ot_layout_t.layout face).has_glyph_classes lookups.substitute_start in
    let masks = masks_by map.one_mask in
    let mongolian = is_mongolian plan.script in
    c.given_hooks_never_raise.ensures plan face (λ shaper. record {
      preprocess = unchanged;
      setup_masks = never (joined masks mongolian) (λ b. same-alone b (joined masks mongolian b) (joined-alone masks mongolian b));
      pause = λ n. less-arabic_pause n map meant classes;
      postprocess = never (stretched meant) (same-stretched meant);
      reorder = λ b start end. same-less b (modifiers_reordered b start end) (same-modifiers b start end);
    })
