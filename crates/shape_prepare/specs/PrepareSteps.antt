-- The steps that prepare a text, in their order.
use Rattle.std.specs.Prelude.{List, [], ◌∷◌, ◌++◌}
use Rattle.shape_buffer.specs.Outcome.{Step, step}
use Rattle.shape_common.specs.declared.text_types.Direction.{Direction}
use Rattle.shape_plan.specs.Run.{Run, hook_if}
use Rattle.shape_prepare.specs.Begun.{begun}
use Rattle.shape_prepare.specs.Graphemes.{graphemes_marked}
use Rattle.shape_prepare.specs.DottedCircle.{dotted_circled}
use Rattle.shape_prepare.specs.ClustersFormed.{clusters_formed}
use Rattle.shape_prepare.specs.NativeOrder.{natively_ordered}
use Rattle.shape_prepare.specs.Rotated.{rotated}

-- what a text is made of: masks and positions anew, properties and graphemes, a dotted circle, clusters
abbrev pub grapheme_steps : Run → List Step
grapheme_steps run =
    step (begun run.map.global_mask)
    ∷ step (graphemes_marked run.unicode)
    ∷ step (dotted_circled run.unicode run.face)
    ∷ step clusters_formed
    ∷ []

-- its native order, what the shaper makes of it, and the forms for its direction
abbrev pub order_steps : Run → Direction → List Step
order_steps run target =
    step (natively_ordered run.unicode)
    ∷ step (hook_if run.constants.has_preprocess_text run.hooks (λ h. h.preprocess))
    ∷ step (rotated run.unicode run.face run.decisions target)
    ∷ []

abbrev pub prepare_steps : Run → Direction → List Step
prepare_steps run target = grapheme_steps run ++ order_steps run target
