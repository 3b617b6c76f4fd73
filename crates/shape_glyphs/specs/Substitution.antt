-- Glyphs and substitution as steps of a run.
use Rattle.std.specs.Prelude.{ℕ, zero, suc, ◌&&◌, List, [], ◌∷◌, ◌++◌, if◌then◌else◌}
use Rattle.std.specs.Option.{option_map_or}
use Rattle.shape_items.specs.Buffer.{Buffer}
use Rattle.shape_buffer.specs.Outcome.{Step, step}
use Rattle.shape_plan.specs.Run.{Run, step_if, hook_if}
use Rattle.shape_glyphs.specs.Classes.{glyphs_mapped, classes_synthesised}

-- glyphs, as substitution finds them
abbrev pub glyph_steps : Run → List Step
glyph_steps run =
    step glyphs_mapped
    ∷ step run.lookups.substitute_start
    ∷ step (step_if run.decisions.fallback_glyph_classes classes_synthesised)
    ∷ []

-- the pause after stage i, if it has one, the plan uses the shaper, and the shaper gives pauses
abbrev pub paused : Run → ℕ → Buffer → Buffer
paused run i = option_map_or (λ n. hook_if run.constants.has_pause run.hooks (λ hooks. hooks.pause n)) (run.map.pause_after i) (λ b. b)

-- the first n stages in order, each with its pause after it
abbrev pub stage_steps : Run → ℕ → List Step
stage_steps run zero = []
stage_steps run (suc n) = stage_steps run n ++ (step (run.lookups.stage n) ∷ step (paused run n) ∷ [])

-- the table `morx` stands in the place of the stages
abbrev pub lookup_steps : Run → List Step
lookup_steps run =
    if run.decisions.apply_morx then step (run.lookups.aat_substitute run.user_features) ∷ []
    else stage_steps run run.map.stages

-- lookups, and then what `morx` has deleted goes before the table `GPOS` sees it
abbrev pub substitute_steps : Run → List Step
substitute_steps run =
    lookup_steps run
    ++ (step (step_if (run.decisions.apply_morx && run.decisions.apply_gpos) run.lookups.aat_remove_deleted) ∷ [])
