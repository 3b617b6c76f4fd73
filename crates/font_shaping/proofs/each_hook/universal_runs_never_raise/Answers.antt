use Rattle.std.proofs.Common.{refl}
use Rattle.letter_joining.specs.Forms.{masks_by}
use Rattle.syllabic.specs.Constraints.{vowels_parted}
use Rattle.universal_shaper.specs.Joining.{joined_if, joined_if-alone}
use Rattle.universal_shaper.specs.Pauses as universal
use Rattle.font_shaping.proofs.Hooks.GivenLemmas.{same-alone, unchanged}
use Rattle.font_shaping.proofs.Hooks.SyllableLemmas.{same-vowels}
use Rattle.font_shaping.proofs.Hooks.UniversalLemmas.{same-universal_pause}
use Rattle.font_shaping.proofs.SameWorkLemmas.{never, same-less}
use Rattle.font_shaping.proofs.each_hook.universal_runs_never_raise.Goals as goal

pub returns : goal.returns
returns g c = λ plan face.
    let map = g.M.hb_ot_layout_t.masks plan.ot_map in
    let meant = g.F.hb_font_t.face face in
    let masks = masks_by map.one_mask in
    c.given_hooks_never_raise.ensures plan face (λ shaper. record {
      preprocess = never vowels_parted same-vowels;
      setup_masks = never (joined_if masks plan.script)
          (λ b. same-alone b (joined_if masks plan.script b) (joined_if-alone masks plan.script b));
      pause = λ n. never (universal.made_by_pause n map plan.script meant) (same-universal_pause n map plan.script meant);
      postprocess = unchanged;
      reorder = λ b start end. same-less b b refl;
    })
