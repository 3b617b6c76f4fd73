use Rattle.std.proofs.Common.{refl, inl}
use Rattle.script_shapers.specs.HebrewPoints.{points_reordered}
use Rattle.script_shapers.proofs.HookLemmas.{shaper-preserves}
use Rattle.script_shapers.proofs.PointLemmas.{points_preserve_runs}
use Rattle.script_shapers.proofs.hebrew.hebrew_runs_preserve.Goals as goal

pub returns-clause-clusters : goal.returns-clause-clusters
returns-clause-clusters g c = λ plan face preserve.
    c.hooks_not_given_preserve.ensures.clusters plan face (inl refl) preserve
    (shaper-preserves points_reordered points_preserve_runs _ (λ shaper. refl) plan.shaper)

pub returns-clause-flags : goal.returns-clause-flags
returns-clause-flags g c = λ plan face.
    c.hooks_not_given_preserve.ensures.flags plan face (inl refl)
