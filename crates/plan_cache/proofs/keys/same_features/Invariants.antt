use Rattle.std.proofs.Common.{◌≡◌, ℕ, ◌<◌}
use Rattle.std.specs.Prelude.{slice_index_or}
use Rattle.shape_common.specs.declared.text_types.Feature.{Feature}
use Rattle.plan_cache.proofs.keys.same_features.Given as goal

abbrev pub invariant-loop-place : goal.invariant-loop-place
invariant-loop-place l =
    (k : ℕ) (d : Feature) → k < l.place → slice_index_or l.kept k d ≡ slice_index_or l.asked k d
