use Rattle.std.proofs.Common.{refl, inl, inr}
use Rattle.myanmar_shaper.proofs.PauseLemmas.{pause-order, pause-flags}
use Rattle.myanmar_shaper.proofs.shaper.myanmar_runs_preserve.Goals as goal

pub returns-clause-clusters : goal.returns-clause-clusters
returns-clause-clusters g c = λ plan face preserve.
    c.given_hooks_preserve.ensures.clusters plan face
    (λ shaper. record {
      preprocess = inl refl;
      postprocess = inl refl;
      pause = inr (λ lives i n within is. pause-order (g.F.hb_font_t.face face) n);
    }) preserve (λ reorder given. cc)

pub returns-clause-flags : goal.returns-clause-flags
returns-clause-flags g c = λ plan face.
    c.given_hooks_preserve.ensures.flags plan face
    (λ shaper. record {
      preprocess = inl refl;
      setup_masks = inl refl;
      postprocess = inl refl;
      pause = inr (λ lives i n within is. pause-flags (g.F.hb_font_t.face face) n);
    })

pub returns-clause-equivalence : goal.returns-clause-equivalence
returns-clause-equivalence g c = λ plan face. c.given_hooks_preserve.ensures.equivalence plan face refl refl refl (inl refl)
