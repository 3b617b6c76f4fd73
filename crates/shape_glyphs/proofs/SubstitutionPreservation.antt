-- What making glyphs and substitution preserve, clusters and flags at once: any property of steps that doing nothing
-- has, if each step that is no call has it too.
use Rattle.std.proofs.Common.{◌≡◌, ◌&&◌, ◌≤◌, ◌<◌, ℕ, zero, suc, Bool, true, false, [], ◌∷◌, Option, Some, None, refl, arith}
use Rattle.std.specs.Prelude.{if◌then◌else◌}
use Rattle.std.proofs.lemmas.Bool.{and_parts}
use Rattle.std.specs.Option.{option_map_or}
use Rattle.shape_items.specs.Buffer.{Buffer}
use Rattle.shape_buffer.specs.Preservation.{IsClusterPreserving, IsFlagPreserving, EachStep}
use Rattle.shape_buffer.specs.Outcome.{step}
use Rattle.shape_items.proofs.Flags.FlagLemmas.{PreservesFlags-same}
use Rattle.shape_buffer.proofs.Steps.PreservationLemmas.{EachStep-append, PreservesOrder-same, order-items_mapped, flags-items_mapped}
use Rattle.shape_plan.specs.Preservation.{EachCall}
use Rattle.shape_plan.specs.Run.{Run, hook_if}
use Rattle.shape_glyphs.specs.Classes.{glyphs_mapped, classes_synthesised, with_nominal_glyph, with_class}
use Rattle.shape_glyphs.specs.SubstitutionPreservation.{EachSubstitutionStep, SubstitutionPreservesClusters, SubstitutionPreservesFlags}
use Rattle.shape_glyphs.specs.Substitution.{stage_steps, lookup_steps}
use Rattle.shape_plan.proofs.PreservationLemmas.{preserving-hook, preserving-step_if, preserving-step_due}

-- a property of the steps that call nothing, and of doing nothing
record EachOwnStep (Preserves : (Buffer → Buffer) → Type 0) : Type 0 where
  none : Preserves (λ b. b)
  glyphs : Preserves glyphs_mapped
  classes : Preserves classes_synthesised

preserving-pause : (Preserves : (Buffer → Buffer) → Type 0) → Preserves (λ b. b) → (run : Run) → EachCall Preserves run
    → run.decisions.apply_morx ≡ false → (i : ℕ) → i < run.map.stages
    → (number : Option ℕ) → run.map.pause_after i ≡ number
    → Preserves (option_map_or (λ n. hook_if run.constants.has_pause run.hooks (λ h. h.pause n)) number (λ b. b))
preserving-pause Preserves none run keep staged i within None asked = none
preserving-pause Preserves none run keep staged i within (Some n) asked =
    preserving-hook Preserves none run.constants.has_pause run.hooks (λ h. h.pause n)
    (λ h is given. (keep.hooks h is).pause given staged i n within asked)

preserving-stages : (Preserves : (Buffer → Buffer) → Type 0) → Preserves (λ b. b) → (run : Run) → EachCall Preserves run
    → run.decisions.apply_morx ≡ false → (n : ℕ) → n ≤ run.map.stages → EachStep Preserves (stage_steps run n)
preserving-stages Preserves none run keep staged zero within = tt
preserving-stages Preserves none run keep staged (suc n) within =
    EachStep-append Preserves (stage_steps run n) _ (preserving-stages Preserves none run keep staged n (omega arith))
    (keep.lookups.stage staged n (omega arith), (preserving-pause Preserves none run keep staged n (omega arith) (run.map.pause_after n) refl, tt))

preserving-lookups : (Preserves : (Buffer → Buffer) → Type 0) → Preserves (λ b. b) → (run : Run) → EachCall Preserves run
    → (morx : Bool) → run.decisions.apply_morx ≡ morx
    → EachStep Preserves (if morx then step (run.lookups.aat_substitute run.user_features) ∷ [] else stage_steps run run.map.stages)
preserving-lookups Preserves none run keep true due = (keep.lookups.aat_substitute due, tt)
preserving-lookups Preserves none run keep false staged = preserving-stages Preserves none run keep staged run.map.stages (omega arith)

each_step : (Preserves : (Buffer → Buffer) → Type 0) (run : Run) → EachOwnStep Preserves → EachCall Preserves run → EachSubstitutionStep Preserves run
each_step Preserves run own keep = record {
  glyphs = (
    own.glyphs,
    (keep.lookups.substitute_start, (preserving-step_if Preserves own.none run.decisions.fallback_glyph_classes own.classes, tt)),
  );
  lookups = EachStep-append Preserves (lookup_steps run) _ (preserving-lookups Preserves own.none run keep run.decisions.apply_morx refl) (
    preserving-step_due Preserves own.none (run.decisions.apply_morx && run.decisions.apply_gpos)
        (λ both. keep.lookups.aat_remove_deleted (and_parts run.decisions.apply_morx run.decisions.apply_gpos both).0),
    tt,
  );
}

order-glyphs_mapped : IsClusterPreserving glyphs_mapped
unfolding glyphs_mapped
order-glyphs_mapped = order-items_mapped with_nominal_glyph (λ item. refl)

flags-glyphs_mapped : IsFlagPreserving glyphs_mapped
unfolding glyphs_mapped
flags-glyphs_mapped = flags-items_mapped with_nominal_glyph (λ item. refl)

order-classes_synthesised : IsClusterPreserving classes_synthesised
unfolding classes_synthesised
order-classes_synthesised = order-items_mapped with_class (λ item. refl)

flags-classes_synthesised : IsFlagPreserving classes_synthesised
unfolding classes_synthesised
flags-classes_synthesised = flags-items_mapped with_class (λ item. refl)

pub substitution-preserves_clusters : SubstitutionPreservesClusters
substitution-preserves_clusters run keep = each_step IsClusterPreserving run (record {
  none = λ b monotone. PreservesOrder-same b;
  glyphs = order-glyphs_mapped;
  classes = order-classes_synthesised;
}) keep

pub substitution-preserves_flags : SubstitutionPreservesFlags
substitution-preserves_flags run keep = each_step IsFlagPreserving run (record {
  none = PreservesFlags-same;
  glyphs = flags-glyphs_mapped;
  classes = flags-classes_synthesised;
}) keep
