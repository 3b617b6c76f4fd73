use Rattle.std.proofs.Common.{refl, inl, inr}
use Rattle.shape_users.proofs.SignLemmas.{signs_stepped-order, signs_stepped-flags}
use Rattle.shape_users.proofs.signs.signs_runs_preserve.Goals as goal

pub returns-clause-clusters : goal.returns-clause-clusters
returns-clause-clusters g c = λ plan face preserve.
    c.given_hooks_preserve.ensures.clusters plan face
    (λ shaper. record { preprocess = inr signs_stepped-order; postprocess = inl refl; pause = inl refl }) preserve
    (λ reorder given. cc)

pub returns-clause-flags : goal.returns-clause-flags
returns-clause-flags g c = λ plan face.
    c.given_hooks_preserve.ensures.flags plan face
    (λ shaper. record { preprocess = inr signs_stepped-flags; setup_masks = inl refl; postprocess = inl refl; pause = inl refl })
