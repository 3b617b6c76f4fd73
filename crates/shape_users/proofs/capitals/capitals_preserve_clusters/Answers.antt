use Rattle.std.proofs.Common.{refl, inl}
use Rattle.shape_users.proofs.capitals.capitals_preserve_clusters.Goals as goal

pub returns : goal.returns
returns g c = λ plan face keep.
    c.given_hooks_preserve.ensures.clusters plan face (λ shaper. record { preprocess = inl refl; postprocess = inl refl; pause = inl refl }) keep
    (λ reorder given. cc)
