-- Steps and hooks that aren't due keep everything, and lookups that aren't called have no obligations.
use Rattle.std.proofs.Common.{◌≡◌, Bool, true, false, Option, Some, None, refl}
use Rattle.shape_items.specs.Buffer.{Buffer}
use Rattle.shape_buffer.specs.Preservation.{IsClusterPreserving, IsFlagPreserving, EachLookup}
use Rattle.shape_items.proofs.Flags.FlagLemmas.{PreservesFlags-same}
use Rattle.shape_buffer.proofs.Steps.PreservationLemmas.{PreservesOrder-same}
use Rattle.shape_plan.specs.Preservation.{EachCalledLookup}
use Rattle.shape_plan.specs.Run.{Run, step_if, hook_if}
use Rattle.shape_plan.specs.Shaper.{HookMeaning}

-- a step has no obligations if it isn't due
pub preserving-step_due : (Preserves : (Buffer → Buffer) → Type 0) → Preserves (λ b. b) → {f : Buffer → Buffer} (test : Bool)
    → (test ≡ true → Preserves f) → Preserves (step_if test f)
preserving-step_due Preserves none true preserving = preserving refl
preserving-step_due Preserves none false preserving = none

pub preserving-step_if : (Preserves : (Buffer → Buffer) → Type 0) → Preserves (λ b. b) → {f : Buffer → Buffer} (test : Bool)
    → Preserves f → Preserves (step_if test f)
preserving-step_if Preserves none test preserving = preserving-step_due Preserves none test (λ due. preserving)

pub preserving-hook : (Preserves : (Buffer → Buffer) → Type 0) → Preserves (λ b. b)
    → (given : Bool) (hooks : Option HookMeaning) (pick : HookMeaning → Buffer → Buffer)
    → ((h : HookMeaning) → hooks ≡ Some h → given ≡ true → Preserves (pick h)) → Preserves (hook_if given hooks pick)
preserving-hook Preserves none given None pick each = none
preserving-hook Preserves none true (Some h) pick each = each h refl refl
preserving-hook Preserves none false (Some h) pick each = none

-- ---- clusters, and flags

pub order-step_if : {f : Buffer → Buffer} (test : Bool) → IsClusterPreserving f → IsClusterPreserving (step_if test f)
order-step_if test preserving = preserving-step_if IsClusterPreserving (λ b monotone. PreservesOrder-same b) test preserving

pub order-step_due : {f : Buffer → Buffer} (test : Bool) → (test ≡ true → IsClusterPreserving f) → IsClusterPreserving (step_if test f)
order-step_due test preserving = preserving-step_due IsClusterPreserving (λ b monotone. PreservesOrder-same b) test preserving

pub order-hook_if : (given : Bool) (hooks : Option HookMeaning) (pick : HookMeaning → Buffer → Buffer)
    → ((h : HookMeaning) → hooks ≡ Some h → given ≡ true → IsClusterPreserving (pick h)) → IsClusterPreserving (hook_if given hooks pick)
order-hook_if given hooks pick keep = preserving-hook IsClusterPreserving (λ b monotone. PreservesOrder-same b) given hooks pick keep

pub flags-step_if : {f : Buffer → Buffer} (test : Bool) → IsFlagPreserving f → IsFlagPreserving (step_if test f)
flags-step_if test preserving = preserving-step_if IsFlagPreserving PreservesFlags-same test preserving

pub flags-step_due : {f : Buffer → Buffer} (test : Bool) → (test ≡ true → IsFlagPreserving f) → IsFlagPreserving (step_if test f)
flags-step_due test preserving = preserving-step_due IsFlagPreserving PreservesFlags-same test preserving

pub flags-hook_if : (given : Bool) (hooks : Option HookMeaning) (pick : HookMeaning → Buffer → Buffer)
    → ((h : HookMeaning) → hooks ≡ Some h → given ≡ true → IsFlagPreserving (pick h)) → IsFlagPreserving (hook_if given hooks pick)
flags-hook_if given hooks pick keep = preserving-hook IsFlagPreserving PreservesFlags-same given hooks pick keep

-- ---- lookups

-- what holds of every lookup holds of those that a run calls
pub called : (Preserves : (Buffer → Buffer) → Type 0) (run : Run) → EachLookup Preserves run.lookups → EachCalledLookup Preserves run
called Preserves run each = record {
  substitute_start = each.substitute_start;
  stage = λ _ i _. each.stage i;
  aat_substitute = λ _. each.aat_substitute run.user_features;
  aat_remove_deleted = λ _. each.aat_remove_deleted;
  aat_zero_width_deleted = λ _. each.aat_zero_width_deleted;
  position_start = each.position_start;
  position = λ _. each.position;
  position_finish_advances = each.position_finish_advances;
  position_finish_offsets = each.position_finish_offsets;
  aat_position = λ _ _. each.aat_position run.decisions.kern_mask;
  kern = λ _. each.kern run.decisions.kern_mask;
  aat_track = λ _. each.aat_track run.decisions.trak_mask;
}
