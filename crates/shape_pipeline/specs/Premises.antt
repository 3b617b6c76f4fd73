-- The obligations of a run, if its shaper gives no hook and its engine has no lookups: nothing.
use Rattle.std.specs.Prelude.{◌≡◌, ◌⊎◌, true, false, None}
use Rattle.cluster_order.specs.Ordering.{IsBringingNoCluster, IsOrdering}
use Rattle.shape_common.specs.Direction.{is_backward}
use Rattle.shape_items.specs.Buffer.{Buffer}
use Rattle.shape_items.specs.Prepared.{IsPrepared}
use Rattle.shape_normalize.specs.CanonicalForm.{text_of, HasLawfulHooks, CanonicalTextPremises, EquivalencePremises, CanonicalFormPremises, PlainPremises}
use Rattle.shape_buffer.specs.Preservation.{IsClusterPreserving, IsFlagPreserving}
use Rattle.shape_plan.specs.Preservation.{RunPreservesFlags, EachCalledPause}
use Rattle.shape_plan.specs.Run.{Run}
use Rattle.shape_plan.specs.Shaper.{HookMeaning}
use Rattle.shape_pipeline.specs.Canonical.{HasPlainText, RunPreservesEquivalence}
use Rattle.shape_pipeline.specs.Headline.{prepared_text}
use Rattle.shape_pipeline.specs.Order.{RunPreservesClusters}

-- hooks that leave every buffer as it is, except for the one that reorders marks
pub record LeavesBuffers (hooks : HookMeaning) : Type 0 where
  pub preprocess : hooks.preprocess ≡ (λ b. b)
  pub setup_masks : hooks.setup_masks ≡ (λ b. b)
  pub postprocess : hooks.postprocess ≡ (λ b. b)
  pub pause : hooks.pause ≡ (λ n b. b)

-- hook by hook: each of the three that may change clusters isn't given, or preserves them; of pauses, those that the run
-- calls. A hook `setup_masks` changes masks alone
pub record OrderByHook (run : Run) (hooks : HookMeaning) : Type 0 where
  pub preprocess : (run.constants.has_preprocess_text ≡ false) ⊎ IsClusterPreserving hooks.preprocess
  pub postprocess : (run.constants.has_postprocess_glyphs ≡ false) ⊎ IsClusterPreserving hooks.postprocess
  pub pause : (run.constants.has_pause ≡ false) ⊎ EachCalledPause IsClusterPreserving run hooks

-- hook by hook, if the last one puts clusters in order: its pauses bring no cluster
pub record OrderInTheEnd (run : Run) (hooks : HookMeaning) : Type 0 where
  pub preprocess : (run.constants.has_preprocess_text ≡ false) ⊎ IsClusterPreserving hooks.preprocess
  pub pause : (run.constants.has_pause ≡ false) ⊎ EachCalledPause IsBringingNoCluster run hooks
  pub given : run.constants.has_postprocess_glyphs ≡ true
  pub postprocess : IsOrdering (is_backward run.direction) hooks.postprocess

-- and of the four that may change flags
pub record FlagsByHook (run : Run) (hooks : HookMeaning) : Type 0 where
  pub preprocess : (run.constants.has_preprocess_text ≡ false) ⊎ IsFlagPreserving hooks.preprocess
  pub setup_masks : (run.constants.has_setup_masks ≡ false) ⊎ IsFlagPreserving hooks.setup_masks
  pub postprocess : (run.constants.has_postprocess_glyphs ≡ false) ⊎ IsFlagPreserving hooks.postprocess
  pub pause : (run.constants.has_pause ≡ false) ⊎ EachCalledPause IsFlagPreserving run hooks

-- the cluster premises, the flag premises, the equivalence premises on hooks, and what normalising by itself asks
-- besides: it finds each text prepared, so what is left to ask is asked of the text alone
pub record HasNoObligations (run : Run) : Type 0 where
  pub clusters : RunPreservesClusters run
  pub flags : RunPreservesFlags run
  pub canonical : RunPreservesEquivalence run
  pub hooks : HasLawfulHooks run.rules
  pub no_reordering : run.rules.reorder ≡ None
  pub prepared : (text : Buffer) → IsPrepared run.rules.unicode (prepared_text run text).items
  pub equivalence : (text : Buffer) → HasPlainText run text → EquivalencePremises run.rules (prepared_text run text)
  pub canonical_form : (text : Buffer) → HasPlainText run text → CanonicalTextPremises run.rules (text_of (prepared_text run text))
      → CanonicalFormPremises run.rules (prepared_text run text)
  pub plain : (text : Buffer) → HasPlainText run text → PlainPremises run.rules (prepared_text run text)
