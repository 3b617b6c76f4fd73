use Rattle.std.proofs.Common.{List, ◌∷◌, [], ◌++◌, ◌&&◌, ap, append_assoc}
use Rattle.shape_buffer.specs.Outcome.{Step, step}
use Rattle.shape_plan.specs.Run.{step_if}
use Rattle.shape_pipeline.specs.Worked.Run.{steps_to_lookups}
use Rattle.shape_glyphs.specs.Steps.{position_steps, finish_steps}
use Rattle.shape_glyphs.specs.Substitution.{lookup_steps}
use Rattle.shape_pipeline.proofs.worked.steps_come_in_order.Goals as goal

pub returns : goal.returns
returns c = λ run target.
    let deletion : List Step = step (step_if (run.decisions.apply_morx && run.decisions.apply_gpos) run.lookups.aat_remove_deleted) ∷ [] in
    ap (λ (steps : List Step). steps_to_lookups run target ++ steps)
    (append_assoc (lookup_steps run) deletion (position_steps run ++ finish_steps run))
