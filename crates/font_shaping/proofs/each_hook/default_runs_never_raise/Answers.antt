use Rattle.std.proofs.Common.{refl}
use Rattle.font_shaping.proofs.Hooks.GivenLemmas.{unchanged}
use Rattle.font_shaping.proofs.SameWorkLemmas.{same-less}
use Rattle.font_shaping.proofs.each_hook.default_runs_never_raise.Goals as goal

pub returns : goal.returns
returns g c = λ plan face.
    c.given_hooks_never_raise.ensures plan face (λ shaper. record {
      preprocess = unchanged;
      setup_masks = unchanged;
      pause = λ n. unchanged;
      postprocess = unchanged;
      reorder = λ b start end. same-less b b refl;
    })
