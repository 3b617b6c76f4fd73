use Rattle.std.proofs.Common.{refl}
use Rattle.myanmar_shaper.specs.Pauses as myanmar
use Rattle.font_shaping.proofs.Hooks.GivenLemmas.{unchanged}
use Rattle.font_shaping.proofs.Hooks.MyanmarLemmas.{same-myanmar_pause}
use Rattle.font_shaping.proofs.SameWorkLemmas.{never, same-less}
use Rattle.font_shaping.proofs.each_hook.myanmar_runs_never_raise.Goals as goal

pub returns : goal.returns
returns g c = λ plan face.
    let meant = g.F.hb_font_t.face face in
    c.given_hooks_never_raise.ensures plan face (λ shaper. record {
      preprocess = unchanged;
      setup_masks = unchanged;
      pause = λ n. never (myanmar.made_by_pause n meant) (same-myanmar_pause n meant);
      postprocess = unchanged;
      reorder = λ b start end. same-less b b refl;
    })
