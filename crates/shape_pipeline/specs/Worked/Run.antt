-- The order of a run, step by step: the list that its parts come to.
use Rattle.std.specs.Prelude.{◌≡◌, ◌&&◌, List, [], ◌∷◌, ◌++◌}
use Rattle.shape_items.specs.Flags.{flags_propagated}
use Rattle.shape_buffer.specs.Outcome.{Step, step}
use Rattle.shape_common.specs.declared.text_types.Direction.{Direction}
use Rattle.shape_fallback.specs.DueSteps.{recategorize_step, spaces_step, marks_step}
use Rattle.shape_plan.specs.Run.{Run, step_if, hook_if}
use Rattle.shape_glyphs.specs.Advances.{positions_cleared, advanced}
use Rattle.shape_glyphs.specs.Ignorables.{ignorables_zeroed, ignorables_hidden}
use Rattle.shape_glyphs.specs.Selectors.{selectors_replaced}
use Rattle.shape_glyphs.specs.Tables.{table_positioned, kerned, tracked, deleted_narrowed, deleted_removed}
use Rattle.shape_glyphs.specs.Reversal.{reversed}
use Rattle.shape_glyphs.specs.Zeroing.{zeroed_early, zeroed_late}
use Rattle.shape_prepare.specs.Begun.{begun}
use Rattle.shape_prepare.specs.ClustersFormed.{clusters_formed}
use Rattle.shape_prepare.specs.DottedCircle.{dotted_circled}
use Rattle.shape_prepare.specs.Graphemes.{graphemes_marked}
use Rattle.shape_prepare.specs.NativeOrder.{natively_ordered}
use Rattle.shape_prepare.specs.Rotated.{rotated}
use Rattle.shape_glyphs.specs.Classes.{glyphs_mapped, classes_synthesised}
use Rattle.shape_prepare.specs.Fractions.{fractions_masked}
use Rattle.shape_prepare.specs.Ranges.{ranges_masked}
use Rattle.shape_glyphs.specs.Substitution.{lookup_steps}
use Rattle.shape_pipeline.specs.Shaped.{normalising, all_steps}

-- from the text up to the lookups
abbrev pub steps_to_lookups : Run → Direction → List Step
steps_to_lookups run target =
    step (begun run.map.global_mask)
    ∷ step (graphemes_marked run.unicode)
    ∷ step (dotted_circled run.unicode run.face)
    ∷ step clusters_formed
    ∷ step (natively_ordered run.unicode)
    ∷ step (hook_if run.constants.has_preprocess_text run.hooks (λ hooks. hooks.preprocess))
    ∷ step (rotated run.unicode run.face run.decisions target)
    ∷ normalising run.rules
    ∷ step (fractions_masked run.decisions)
    ∷ step (hook_if run.constants.has_setup_masks run.hooks (λ hooks. hooks.setup_masks))
    ∷ step (ranges_masked run.map run.user_features)
    ∷ step (recategorize_step run.decisions)
    ∷ step glyphs_mapped
    ∷ step run.lookups.substitute_start
    ∷ step (step_if run.decisions.fallback_glyph_classes classes_synthesised)
    ∷ []

-- from the lookups to the flags
abbrev pub steps_from_lookups : Run → List Step
steps_from_lookups run =
    step (step_if (run.decisions.apply_morx && run.decisions.apply_gpos) run.lookups.aat_remove_deleted)
    ∷ step positions_cleared
    ∷ step (advanced run.face)
    ∷ step (spaces_step run.face)
    ∷ step run.lookups.position_start
    ∷ step (zeroed_early run)
    ∷ step (table_positioned run.lookups run.decisions)
    ∷ step (kerned run.lookups run.decisions)
    ∷ step (tracked run.lookups run.decisions)
    ∷ step (zeroed_late run)
    ∷ step run.lookups.position_finish_advances
    ∷ step ignorables_zeroed
    ∷ step (deleted_narrowed run.lookups run.decisions)
    ∷ step run.lookups.position_finish_offsets
    ∷ step (marks_step run.unicode run.face run.direction run.script run.decisions)
    ∷ step reversed
    ∷ step (deleted_removed run.lookups run.decisions)
    ∷ step selectors_replaced
    ∷ step (ignorables_hidden run.face)
    ∷ step (hook_if run.constants.has_postprocess_glyphs run.hooks (λ hooks. hooks.postprocess))
    ∷ step flags_propagated
    ∷ []

-- a run makes these steps, with `morx` or the stages of `GSUB` between them
abbrev pub StepsComeInOrder : Type 0
StepsComeInOrder = (run : Run) (target : Direction)
    → all_steps run target ≡ steps_to_lookups run target ++ (lookup_steps run ++ steps_from_lookups run)
