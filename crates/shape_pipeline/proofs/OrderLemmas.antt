-- The order of clusters along a whole run: rising in the text, facing its native direction while it is shaped, and
-- shown in the direction of the text.
use Rattle.std.proofs.Common.{◌≡◌, ◌≢◌, ℕ, Bool, true, false, List, [], ◌∷◌, ◌++◌, Option, Some, None, refl, ap, sym, ◌∙◌, subst}
use Rattle.std.specs.Prelude.{Contains, not}
use Rattle.std.specs.List.Sorted.{IsNonDecreasing}
use Rattle.shape_items.specs.Buffer.{Buffer}
use Rattle.shape_items.specs.ClusterOrder.{IsMonotoneLevel, IsOrderedFor}
use Rattle.shape_items.specs.Clusters.{clusters}
use Rattle.shape_common.specs.Direction.{is_backward, reverse_of}
use Rattle.shape_items.specs.Flags.{flags_propagated}
use Rattle.shape_buffer.specs.Guess.{guessed_script, known_or_ltr, script_or_ltr, direction_or}
use Rattle.shape_buffer.specs.Preservation.{PreservesOrder, IsClusterPreserving, EachStep}
use Rattle.shape_buffer.specs.Outcome.{Step, step, run_steps}
use Rattle.shape_common.specs.Unicode.{UnicodeMeaning}
use Rattle.shape_common.specs.declared.text_types.Script.{Script}
use Rattle.shape_common.specs.declared.text_types.Direction.{Direction}
use Rattle.shape_common.specs.declared.text_types.Direction.TheVariants.{Invalid, LeftToRight, RightToLeft, TopToBottom, BottomToTop}
use Rattle.shape_buffer.proofs.Steps.PreservationLemmas.{EachStep-append}
use Rattle.shape_fallback.proofs.PreservationLemmas.{fallback-preserves_clusters}
use Rattle.shape_normalize.proofs.Normalized.ClusterOrderLemmas.{PreservesOrder-normalized}
use Rattle.shape_normalize.proofs.Hooks.ReorderLemmas.{LawfulReorder}
use Rattle.shape_normalize.specs.Normalized.{HookPreservesClusters}
use Rattle.shape_plan.specs.Preservation.{CallsPreserveClusters}
use Rattle.shape_plan.specs.Run.{Run}
use Rattle.shape_glyphs.specs.Steps.{position_steps, show_steps, finish_steps}
use Rattle.shape_glyphs.specs.Reversal.{reversed}
use Rattle.shape_glyphs.proofs.StepPreservation.{steps_preserve_clusters}
use Rattle.shape_prepare.specs.ClusterPoint.{InOrderFor, direction_for, is_reversed}
use Rattle.shape_prepare.specs.PrepareSteps.{prepare_steps}
use Rattle.shape_prepare.proofs.Preservation.PreservationLemmas.{preparing_preserves_order}
use Rattle.shape_prepare.proofs.Masking.MaskPreservation.{masks-preserve_clusters}
use Rattle.shape_glyphs.proofs.SubstitutionPreservation.{substitution-preserves_clusters}
use Rattle.shape_pipeline.specs.Headline.{target_of}
use Rattle.shape_pipeline.specs.Shaped.{normalising, glyph_phase, shaped_steps, all_steps}
use Rattle.shape_pipeline.proofs.PhaseLemmas.{Leads, Leads-then, EachStep-glyph_phase, EachStep-position_steps}

-- ---- states of a run, where each cluster is one of `From`

-- each cluster comes from there, and the level is monotone
pub record Comes (From : ℕ → Type 0) (b : Buffer) : Type 0 where
  pub from : (k : ℕ) → Contains (clusters b.items) k → From k
  pub monotone : IsMonotoneLevel b.cluster_level

-- reversed against the target direction exactly when the clusters fall
record IsFacing (From : ℕ → Type 0) (target : Direction) (b : Buffer) : Type 0 where
  comes : Comes From b
  reversed : Bool
  direction : b.direction ≡ direction_for reversed target
  ordered : IsOrderedFor reversed (clusters b.items)

-- in the order that the target direction asks
pub record IsShown (From : ℕ → Type 0) (target : Direction) (b : Buffer) : Type 0 where
  pub comes : Comes From b
  pub ordered : IsOrderedFor (is_backward target) (clusters b.items)

-- a state that is kept by every step that preserves clusters
pub record IsPreserved (State : Buffer → Type 0) : Type 0 where
  pub monotone : (b : Buffer) → State b → IsMonotoneLevel b.cluster_level
  pub kept : (old new : Buffer) → State old → PreservesOrder old new → State new

comes-preserved : {From : ℕ → Type 0} {old new : Buffer} → Comes From old → PreservesOrder old new → Comes From new
comes-preserved comes preserves = record {
  from = λ k is. comes.from k (preserves.clusters.none_new k is);
  monotone = subst IsMonotoneLevel (sym preserves.level) comes.monotone;
}

ordered-preserved : {old new : Buffer} (backward : Bool) → IsOrderedFor backward (clusters old.items) → PreservesOrder old new
    → IsOrderedFor backward (clusters new.items)
ordered-preserved true ordered preserves = preserves.clusters.falling ordered
ordered-preserved false ordered preserves = preserves.clusters.rising ordered

IsPreserved-facing : (From : ℕ → Type 0) (target : Direction) → IsPreserved (IsFacing From target)
IsPreserved-facing From target = record {
  monotone = λ b state. state.comes.monotone;
  kept = λ old new state preserves. record {
    comes = comes-preserved state.comes preserves;
    reversed = state.reversed;
    direction = preserves.direction ∙ state.direction;
    ordered = ordered-preserved state.reversed state.ordered preserves;
  };
}

pub IsPreserved-shown : (From : ℕ → Type 0) (target : Direction) → IsPreserved (IsShown From target)
IsPreserved-shown From target = record {
  monotone = λ b state. state.comes.monotone;
  kept = λ old new state preserves. record {
    comes = comes-preserved state.comes preserves;
    ordered = ordered-preserved
        (is_backward target) state.ordered preserves;
  };
}

run_preserves : {State : Buffer → Type 0} → IsPreserved State → (steps : List Step) → EachStep IsClusterPreserving steps → (b : Buffer) → State b
    → State (run_steps steps b)
run_preserves kept [] keep b state = state
run_preserves kept (step ∷ steps) keep b state =
    run_preserves kept steps keep.1 (step.makes b) (kept.kept b (step.makes b) state (keep.0 b (kept.monotone b state)))

Leads-preserving : {State : Buffer → Type 0} → IsPreserved State → (steps : List Step) → EachStep IsClusterPreserving steps → Leads State steps State
Leads-preserving kept steps keep = record { leads = run_preserves kept steps keep }

-- ---- the two reversals: if the text was reversed against the target once, it is reversed back, and only then

back_again : (target : Direction) → target ≢ Invalid → not (is_backward (reverse_of target)) ≡ is_backward target
back_again Invalid valid = absurd (valid refl)
back_again LeftToRight valid = refl
back_again RightToLeft valid = refl
back_again TopToBottom valid = refl
back_again BottomToTop valid = refl

shown-reversed : {From : ℕ → Type 0} (target : Direction) → target ≢ Invalid → (b : Buffer) → IsFacing From target b
    → IsShown From target (reversed b)
shown-reversed {From} target valid b state =
    let reverses = steps_preserve_clusters.reversal b in
    record {
      comes = record {
        from = λ k is. state.comes.from k (reverses.none_new k is);
        monotone = subst IsMonotoneLevel (sym reverses.level) state.comes.monotone;
      };
      ordered = by_reversal state.reversed state.direction state.ordered;
    }
  where
    by_reversal : (once : Bool) → b.direction ≡ direction_for once target → IsOrderedFor once (clusters b.items)
        → IsOrderedFor (is_backward target) (clusters (reversed b).items)
    by_reversal true is falls =
        subst (λ (t : Bool). IsOrderedFor t (clusters (reversed b).items)) (ap (λ d. not (is_backward d)) is ∙ back_again target valid)
        ((steps_preserve_clusters.reversal b).falling falls)
    by_reversal false is rises =
        subst (λ (t : Bool). IsOrderedFor t (clusters (reversed b).items)) (ap is_backward is) ((steps_preserve_clusters.reversal b).rising rises)

-- ---- the parts

module _ (run : Run) (target : Direction) (valid : target ≢ Invalid) (From : ℕ → Type 0)
    (lawful : LawfulReorder run.rules.reorder) (reordering : HookPreservesClusters run.rules) (calls : CallsPreserveClusters run) where
  -- a text as preparing leaves it
  facing-prepared : (reversed : Bool) (old new : Buffer) → InOrderFor reversed old new → old.direction ≡ target
      → IsMonotoneLevel old.cluster_level
      → ((k : ℕ) → Contains (clusters new.items) k → From k) → IsFacing From target new
  facing-prepared reversed old new order is monotone from = record {
    comes = record { from = from; monotone = subst IsMonotoneLevel (sym order.level) monotone };
    reversed = reversed;
    direction = order.direction ∙ ap (direction_for reversed) is;
    ordered = order.order;
  }

  facing-normalised : Leads (IsFacing From target) (normalising run.rules ∷ []) (IsFacing From target)
  facing-normalised = Leads-preserving (IsPreserved-facing From target) (normalising run.rules ∷ [])
      (PreservesOrder-normalized run.rules lawful reordering, tt)

  facing-glyphs : Leads (IsFacing From target) (glyph_phase run) (IsFacing From target)
  facing-glyphs = Leads-preserving (IsPreserved-facing From target) (glyph_phase run)
      (EachStep-glyph_phase IsClusterPreserving run (fallback-preserves_clusters run.unicode run.face run.direction run.script run.decisions)
      (masks-preserve_clusters run calls) (substitution-preserves_clusters run calls))

  facing-placed : Leads (IsFacing From target) (position_steps run) (IsFacing From target)
  facing-placed = Leads-preserving (IsPreserved-facing From target) (position_steps run)
      (EachStep-position_steps IsClusterPreserving run (fallback-preserves_clusters run.unicode run.face run.direction run.script run.decisions)
      (steps_preserve_clusters.advances run) (steps_preserve_clusters.tables run calls))

  shown-finished : Leads (IsFacing From target) (finish_steps run) (IsShown From target)
  shown-finished =
      let reversal : Leads (IsFacing From target) (step reversed ∷ [])
      (IsShown From target) = record { leads = λ b state. shown-reversed target valid b state } in
      let flags : EachStep IsClusterPreserving (step flags_propagated ∷ []) = (steps_preserve_clusters.flags, tt) in
      Leads-then {steps = step reversed ∷ []} {more = show_steps run ++ step flags_propagated ∷ []} reversal
      (Leads-preserving (IsPreserved-shown From target) (show_steps run ++ step flags_propagated ∷ [])
      (EachStep-append IsClusterPreserving (show_steps run) (step flags_propagated ∷ []) (steps_preserve_clusters.showing run calls) flags))

  shown-normalised : Leads (IsFacing From target) (normalising run.rules ∷ shaped_steps run) (IsShown From target)
  shown-normalised = Leads-then {steps = normalising run.rules ∷ []} {more = shaped_steps run} facing-normalised
      (Leads-then {steps = glyph_phase run} {more = position_steps run ++ finish_steps run} facing-glyphs
      (Leads-then {steps = position_steps run} {more = finish_steps run} facing-placed shown-finished))

  -- a whole run, from what is known of the text as it is prepared
  pub shown-all : (b : Buffer) → b.direction ≡ target → IsMonotoneLevel b.cluster_level → IsNonDecreasing (clusters b.items)
      → ((k : ℕ) → Contains (clusters (run_steps (prepare_steps run target) b).items) k → From k)
      → IsShown From target (run_steps (all_steps run target) b)
  shown-all b is monotone rising from =
      let prepares : Leads (λ c. c ≡ b) (prepare_steps run target) (IsFacing From target) = record {
        leads = λ c same. rw same (facing-prepared (is_reversed run b) b (run_steps (prepare_steps run target) b)
            (preparing_preserves_order run target b calls monotone rising) is monotone from);
      } in
      (Leads-then {steps = prepare_steps run target} {more = normalising run.rules
      ∷ shaped_steps run} prepares shown-normalised).leads b refl

-- ---- no text is shaped in an unknown direction

known_or_ltr-known : (answer : Option Direction) → known_or_ltr answer ≢ Invalid
known_or_ltr-known None is = let e : LeftToRight ≡ Invalid = is in cc
known_or_ltr-known (Some Invalid) is = let e : LeftToRight ≡ Invalid = is in cc
known_or_ltr-known (Some LeftToRight) is = let e : LeftToRight ≡ Invalid = is in cc
known_or_ltr-known (Some RightToLeft) is = let e : RightToLeft ≡ Invalid = is in cc
known_or_ltr-known (Some TopToBottom) is = let e : TopToBottom ≡ Invalid = is in cc
known_or_ltr-known (Some BottomToTop) is = let e : BottomToTop ≡ Invalid = is in cc

script_or_ltr-known : (unicode : UnicodeMeaning) (script : Option Script) → script_or_ltr unicode script ≢ Invalid
script_or_ltr-known unicode None is = let e : LeftToRight ≡ Invalid = is in cc
script_or_ltr-known unicode (Some script) is = known_or_ltr-known (unicode.script_direction script) is

direction_or-known : (direction other : Direction) → other ≢ Invalid → direction_or direction other ≢ Invalid
direction_or-known Invalid other known is = known is
direction_or-known LeftToRight other known is = let e : LeftToRight ≡ Invalid = is in cc
direction_or-known RightToLeft other known is = let e : RightToLeft ≡ Invalid = is in cc
direction_or-known TopToBottom other known is = let e : TopToBottom ≡ Invalid = is in cc
direction_or-known BottomToTop other known is = let e : BottomToTop ≡ Invalid = is in cc

pub target_of-known : (run : Run) (text : Buffer) → target_of run text ≢ Invalid
target_of-known run text = direction_or-known text.direction _ (script_or_ltr-known run.unicode (guessed_script run.unicode text))
