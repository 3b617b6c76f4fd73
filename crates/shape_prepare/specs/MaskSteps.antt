-- The masks of a normalised list as steps of a run.
use Rattle.std.specs.Prelude.{List, [], ◌∷◌}
use Rattle.shape_buffer.specs.Outcome.{Step, step}
use Rattle.shape_plan.specs.Run.{Run, hook_if}
use Rattle.shape_prepare.specs.Fractions.{fractions_masked}
use Rattle.shape_prepare.specs.Ranges.{ranges_masked}

-- the masks of the items: fractions, what the shaper sets, and the user's features
abbrev pub mask_steps : Run → List Step
mask_steps run =
    step (fractions_masked run.decisions)
    ∷ step (hook_if run.constants.has_setup_masks run.hooks (λ hooks. hooks.setup_masks))
    ∷ step (ranges_masked run.map run.user_features)
    ∷ []
