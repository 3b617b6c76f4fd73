use Rattle.std.proofs.Common.{refl}
use Rattle.khmer_shaper.specs.Pauses as khmer
use Rattle.font_shaping.proofs.Hooks.GivenLemmas.{unchanged}
use Rattle.font_shaping.proofs.Hooks.KhmerLemmas.{same-khmer_pause}
use Rattle.font_shaping.proofs.SameWorkLemmas.{never, same-less}
use Rattle.font_shaping.proofs.each_hook.khmer_runs_never_raise.Goals as goal

pub returns : goal.returns
returns g c = λ plan face.
    let map = g.M.hb_ot_layout_t.masks plan.ot_map in
    let meant = g.F.hb_font_t.face face in
    c.given_hooks_never_raise.ensures plan face (λ shaper. record {
      preprocess = unchanged;
      setup_masks = unchanged;
      pause = λ n. never (khmer.made_by_pause n map meant) (same-khmer_pause n map meant);
      postprocess = unchanged;
      reorder = λ b start end. same-less b b refl;
    })
