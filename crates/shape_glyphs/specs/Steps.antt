-- The steps of a run from masked characters to the flags of glyphs, in their order.
use Rattle.std.specs.Prelude.{List, [], ◌∷◌, ◌++◌}
use Rattle.shape_items.specs.Flags.{flags_propagated}
use Rattle.shape_buffer.specs.Outcome.{Step, step}
use Rattle.shape_plan.specs.Run.{Run, hook_if}
use Rattle.shape_fallback.specs.DueSteps.{recategorize_step, spaces_step, marks_step}
use Rattle.shape_glyphs.specs.Advances.{positions_cleared, advanced}
use Rattle.shape_glyphs.specs.Ignorables.{ignorables_zeroed, ignorables_hidden}
use Rattle.shape_glyphs.specs.Selectors.{selectors_replaced}
use Rattle.shape_glyphs.specs.Tables.{table_positioned, kerned, tracked, deleted_narrowed, deleted_removed}
use Rattle.shape_glyphs.specs.Reversal.{reversed}
use Rattle.shape_glyphs.specs.Substitution.{glyph_steps, substitute_steps}
use Rattle.shape_glyphs.specs.Zeroing.{zeroed_early, zeroed_late}

-- ccc that marks are placed by, glyphs with their classes, and lookups
abbrev pub substitute_pre_steps : Run → List Step
substitute_pre_steps run = step (recategorize_step run.decisions) ∷ (glyph_steps run ++ substitute_steps run)

-- what the face says of each glyph; fallback spaces come after
abbrev pub advance_steps : Run → List Step
advance_steps run = step positions_cleared ∷ step (advanced run.face) ∷ []

-- what tables say, and when marks lose their advances
abbrev pub place_steps : Run → List Step
place_steps run =
    step run.lookups.position_start
    ∷ step (zeroed_early run)
    ∷ step (table_positioned run.lookups run.decisions)
    ∷ step (kerned run.lookups run.decisions)
    ∷ step (tracked run.lookups run.decisions)
    ∷ step (zeroed_late run)
    ∷ []

-- the end of positioning
abbrev pub close_steps : Run → List Step
close_steps run =
    step run.lookups.position_finish_advances
    ∷ step ignorables_zeroed
    ∷ step (deleted_narrowed run.lookups run.decisions)
    ∷ step run.lookups.position_finish_offsets
    ∷ []

-- positions by tables; fallback marks come after
abbrev pub table_steps : Run → List Step
table_steps run = place_steps run ++ close_steps run

-- positions: the face, spaces without a glyph, tables, and marks that no table places
abbrev pub position_steps : Run → List Step
position_steps run =
    advance_steps run
    ++ (step (spaces_step run.face)
    ∷ (table_steps run ++ (step (marks_step run.unicode run.face run.direction run.script run.decisions) ∷ [])))

-- which glyphs are handed out, in their order
abbrev pub show_steps : Run → List Step
show_steps run =
    step (deleted_removed run.lookups run.decisions)
    ∷ step selectors_replaced
    ∷ step (ignorables_hidden run.face)
    ∷ step (hook_if run.constants.has_postprocess_glyphs run.hooks (λ hooks. hooks.postprocess))
    ∷ []

-- from positions to the flags
abbrev pub finish_steps : Run → List Step
finish_steps run = step reversed ∷ (show_steps run ++ step flags_propagated ∷ [])
