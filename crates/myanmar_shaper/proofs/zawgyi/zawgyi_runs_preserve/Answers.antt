use Rattle.std.proofs.Common.{refl, inl}
use Rattle.myanmar_shaper.proofs.zawgyi.zawgyi_runs_preserve.Goals as goal

pub returns-clause-clusters : goal.returns-clause-clusters
returns-clause-clusters g c = λ plan face preserve.
    c.given_hooks_preserve.ensures.clusters plan face
    (λ shaper. record { preprocess = inl refl; postprocess = inl refl; pause = inl refl }) preserve (λ reorder given. cc)

pub returns-clause-flags : goal.returns-clause-flags
returns-clause-flags g c = λ plan face.
    c.given_hooks_preserve.ensures.flags plan face
    (λ shaper. record { preprocess = inl refl; setup_masks = inl refl; postprocess = inl refl; pause = inl refl })

pub returns-clause-equivalence : goal.returns-clause-equivalence
returns-clause-equivalence g c = λ plan face. c.given_hooks_preserve.ensures.equivalence plan face refl refl refl (inl refl)
