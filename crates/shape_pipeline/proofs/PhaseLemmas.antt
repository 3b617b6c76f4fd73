-- A property of each step of a run's parts, from the parts' own lists.
use Rattle.std.proofs.Common.{List, [], ◌∷◌, ◌++◌, subst, sym}
use Rattle.shape_items.specs.Buffer.{Buffer}
use Rattle.shape_buffer.specs.Preservation.{EachStep}
use Rattle.shape_buffer.specs.Outcome.{Step, step, run_steps}
use Rattle.shape_buffer.proofs.Steps.PreservationLemmas.{EachStep-append}
use Rattle.shape_buffer.proofs.Steps.Runs.{run_steps-append}
use Rattle.shape_fallback.specs.Preservation.{EachFallback}
use Rattle.shape_fallback.specs.DueSteps.{spaces_step, marks_step}
use Rattle.shape_plan.specs.Run.{Run}
use Rattle.shape_glyphs.specs.Steps.{advance_steps, table_steps, substitute_pre_steps, position_steps}
use Rattle.shape_glyphs.specs.SubstitutionPreservation.{EachSubstitutionStep}
use Rattle.shape_prepare.specs.MaskSteps.{mask_steps}
use Rattle.shape_glyphs.specs.Substitution.{glyph_steps, substitute_steps}
use Rattle.shape_pipeline.specs.Shaped.{glyph_phase}

-- steps take one state to another
pub record Leads (Before : Buffer → Type 0) (steps : List Step) (After : Buffer → Type 0) : Type 0 where
  pub leads : (b : Buffer) → Before b → After (run_steps steps b)

pub Leads-then : {Before Between After : Buffer → Type 0} {steps more : List Step}
    → Leads Before steps Between → Leads Between more After → Leads Before (steps ++ more) After
Leads-then {After = After} {steps = steps} {more = more} first second = record {
  leads = λ b state. subst After (sym (run_steps-append steps more b)) (second.leads (run_steps steps b) (first.leads b state));
}

module _ (Preserves : (Buffer → Buffer) → Type 0) (run : Run)
    (fallback : EachFallback Preserves run.unicode run.face run.direction run.script run.decisions) where
  pub EachStep-glyph_phase : EachStep Preserves (mask_steps run) → EachSubstitutionStep Preserves run → EachStep Preserves (glyph_phase run)
  EachStep-glyph_phase masks each =
      EachStep-append Preserves (mask_steps run) (substitute_pre_steps run) masks
      (fallback.recategorize, EachStep-append Preserves (glyph_steps run) (substitute_steps run) each.glyphs each.lookups)

  pub EachStep-position_steps : EachStep Preserves (advance_steps run) → EachStep Preserves (table_steps run)
      → EachStep Preserves (position_steps run)
  EachStep-position_steps advances tables =
      let placing : List Step = step (marks_step run.unicode run.face run.direction run.script run.decisions) ∷ [] in
      let marks : EachStep Preserves placing = (fallback.marks, tt) in
      EachStep-append Preserves (advance_steps run) (step (spaces_step run.face) ∷ (table_steps run ++ placing)) advances
      (fallback.spaces, EachStep-append Preserves (table_steps run) placing tables marks)
