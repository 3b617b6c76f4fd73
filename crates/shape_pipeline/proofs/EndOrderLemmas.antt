-- A run that ends in order: until its last hook no call brings a cluster, and that hook puts them in order.
use Rattle.std.proofs.Common.{◌≡◌, ◌∙◌, ◌&&◌, ℕ, zero, suc, ◌<◌, ◌≤◌, Bool, true, false, List, [], ◌∷◌, ◌++◌, Option, Some, None, refl, sym, subst, arith}
use Rattle.std.specs.Option.{option_map_or}
use Rattle.std.specs.Prelude.{Contains, if◌then◌else◌}
use Rattle.std.specs.List.Sorted.{IsNonDecreasing}
use Rattle.std.proofs.lemmas.Bool.{and_parts}
use Rattle.cluster_order.specs.Ordering.{HasNoNewCluster, IsBringingNoCluster}
use Rattle.cluster_order.proofs.OrderedLemmas.{brings_none}
use Rattle.shape_items.specs.Buffer.{Buffer}
use Rattle.shape_items.specs.ClusterOrder.{IsMonotoneLevel, IsOrderedFor}
use Rattle.shape_items.specs.Clusters.{clusters}
use Rattle.shape_items.specs.Flags.{flags_propagated}
use Rattle.shape_buffer.specs.Preservation.{IsClusterPreserving, EachStep}
use Rattle.shape_buffer.specs.Outcome.{Step, step, run_steps}
use Rattle.shape_buffer.proofs.Steps.PreservationLemmas.{EachStep-append, PreservesOrder-same}
use Rattle.shape_common.specs.Direction.{is_backward}
use Rattle.shape_common.specs.declared.text_types.Direction.{Direction}
use Rattle.shape_fallback.specs.Preservation.{EachFallback}
use Rattle.shape_fallback.proofs.PreservationLemmas.{fallback-preserves_clusters}
use Rattle.shape_normalize.specs.Normalized.{HookPreservesClusters}
use Rattle.shape_normalize.proofs.Normalized.ClusterOrderLemmas.{PreservesOrder-normalized}
use Rattle.shape_normalize.proofs.Hooks.ReorderLemmas.{LawfulReorder}
use Rattle.shape_plan.specs.Preservation.{CallsPreserveClusters}
use Rattle.shape_plan.specs.Run.{Run, hook_if}
use Rattle.shape_plan.specs.Shaper.{HookMeaning}
use Rattle.shape_plan.proofs.PreservationLemmas.{preserving-hook, preserving-step_due}
use Rattle.shape_glyphs.specs.Ignorables.{ignorables_hidden}
use Rattle.shape_glyphs.specs.Reversal.{reversed}
use Rattle.shape_glyphs.specs.Selectors.{selectors_replaced}
use Rattle.shape_glyphs.specs.Steps.{advance_steps, table_steps, position_steps}
use Rattle.shape_glyphs.specs.Substitution.{glyph_steps, stage_steps, lookup_steps, substitute_steps}
use Rattle.shape_glyphs.specs.Tables.{deleted_removed}
use Rattle.shape_glyphs.proofs.StepPreservation.{steps_preserve_clusters}
use Rattle.shape_glyphs.proofs.SubstitutionPreservation.{substitution-preserves_clusters}
use Rattle.shape_prepare.specs.MaskSteps.{mask_steps}
use Rattle.shape_prepare.specs.PrepareSteps.{prepare_steps}
use Rattle.shape_prepare.proofs.Masking.MaskPreservation.{masks-preserve_clusters}
use Rattle.shape_prepare.proofs.Preservation.PreservationLemmas.{preparing_preserves_order}
use Rattle.shape_pipeline.specs.Order.{EndsInOrder}
use Rattle.shape_pipeline.specs.Shaped.{normalising, glyph_phase, all_steps}
use Rattle.shape_pipeline.proofs.OrderLemmas.{Comes, IsShown, IsPreserved-shown}
use Rattle.shape_pipeline.proofs.PhaseLemmas.{Leads, Leads-then, EachStep-glyph_phase, EachStep-position_steps}

-- ---- steps that bring no cluster

none : IsBringingNoCluster (λ b. b)
none b monotone = brings_none (PreservesOrder-same b)

weak : {f : Buffer → Buffer} → IsClusterPreserving f → IsBringingNoCluster f
weak preserves b monotone = brings_none (preserves b monotone)

each-weak : (steps : List Step) → EachStep IsClusterPreserving steps → EachStep IsBringingNoCluster steps
each-weak [] each = tt
each-weak (step ∷ steps) each = (weak each.0, each-weak steps each.1)

comes-brought : {From : ℕ → Type 0} {old new : Buffer} → Comes From old → HasNoNewCluster old new → Comes From new
comes-brought comes brings = record {
  from = λ k is. comes.from k (brings.none_new k is);
  monotone = subst IsMonotoneLevel (sym brings.level) comes.monotone;
}

run-comes : {From : ℕ → Type 0} (steps : List Step) → EachStep IsBringingNoCluster steps → (b : Buffer) → Comes From b
    → Comes From (run_steps steps b)
run-comes [] each b comes = comes
run-comes (step ∷ steps) each b comes = run-comes steps each.1 (step.makes b) (comes-brought comes (each.0 b comes.monotone))

Leads-comes : (From : ℕ → Type 0) (steps : List Step) → EachStep IsBringingNoCluster steps → Leads (Comes From) steps (Comes From)
Leads-comes From steps each = record { leads = run-comes steps each }

-- ---- the calls but the pauses and the last hook

-- the run without them
abbrev pub quiet : Run → Run
quiet run = record run { constants = record run.constants { has_pause = false; has_postprocess_glyphs = false } }

module _ (run : Run) (ends : EndsInOrder run) where
  of_hooks : (Claim : HookMeaning → Type 0) → Claim ends.hooks → (h : HookMeaning) → run.hooks ≡ Some h → Claim h
  of_hooks Claim claim h is = let both : Some ends.hooks ≡ Some h = sym ends.used ∙ is in let e : ends.hooks ≡ h = cc in subst Claim e claim

  pub quiet-calls : CallsPreserveClusters (quiet run)
  quiet-calls = record {
    lookups = record {
      substitute_start = ends.lookups.substitute_start;
      stage = ends.lookups.stage;
      aat_substitute = ends.lookups.aat_substitute;
      aat_remove_deleted = ends.lookups.aat_remove_deleted;
      aat_zero_width_deleted = ends.lookups.aat_zero_width_deleted;
      position_start = ends.lookups.position_start;
      position = ends.lookups.position;
      position_finish_advances = ends.lookups.position_finish_advances;
      position_finish_offsets = ends.lookups.position_finish_offsets;
      aat_position = ends.lookups.aat_position;
      kern = ends.lookups.kern;
      aat_track = ends.lookups.aat_track;
    };
    hooks = λ h is. record {
      preprocess = λ given. of_hooks (λ h. IsClusterPreserving h.preprocess) (ends.preprocess given) h is;
      setup_masks = λ given. of_hooks (λ h. IsClusterPreserving h.setup_masks) (ends.setup_masks given) h is;
      postprocess = λ given. absurd (let e : false ≡ true = given in cc);
      pause = λ given. absurd (let e : false ≡ true = given in cc);
    };
  }

  -- ---- stages and pauses

  pausing : run.decisions.apply_morx ≡ false → (i : ℕ) → i < run.map.stages → (number : Option ℕ) → run.map.pause_after i ≡ number
      → IsBringingNoCluster (option_map_or (λ n. hook_if run.constants.has_pause run.hooks (λ h. h.pause n)) number (λ b. b))
  pausing staged i within None asked = none
  pausing staged i within (Some n) asked =
      preserving-hook IsBringingNoCluster none run.constants.has_pause run.hooks (λ h. h.pause n)
      (λ h is given. of_hooks (λ h. IsBringingNoCluster (h.pause n)) (ends.pause given staged i n within asked) h is)

  staging : run.decisions.apply_morx ≡ false → (n : ℕ) → n ≤ run.map.stages → EachStep IsBringingNoCluster (stage_steps run n)
  staging staged zero within = tt
  staging staged (suc n) within =
      EachStep-append IsBringingNoCluster (stage_steps run n) _ (staging staged n (omega arith))
      (weak (ends.lookups.stage staged n (omega arith)), (pausing staged n (omega arith) (run.map.pause_after n) refl, tt))

  looking_up : (morx : Bool) → run.decisions.apply_morx ≡ morx
      → EachStep IsBringingNoCluster
      (if morx then step (run.lookups.aat_substitute run.user_features) ∷ [] else stage_steps run run.map.stages)
  looking_up true due = (weak (ends.lookups.aat_substitute due), tt)
  looking_up false staged = staging staged run.map.stages (omega arith)

  substituting : EachStep IsBringingNoCluster (substitute_steps run)
  substituting =
      EachStep-append IsBringingNoCluster (lookup_steps run) _ (looking_up run.decisions.apply_morx refl) (
        preserving-step_due IsBringingNoCluster none (run.decisions.apply_morx && run.decisions.apply_gpos)
            (λ both. weak (ends.lookups.aat_remove_deleted (and_parts run.decisions.apply_morx run.decisions.apply_gpos both).0)),
        tt,
      )

  -- ---- the phases

  falling_back : EachFallback IsBringingNoCluster run.unicode run.face run.direction run.script run.decisions
  falling_back =
      let each = fallback-preserves_clusters run.unicode run.face run.direction run.script run.decisions in
      record { recategorize = weak each.recategorize; spaces = weak each.spaces; marks = weak each.marks }

  glyphs : EachStep IsBringingNoCluster (glyph_phase run)
  glyphs =
      EachStep-glyph_phase IsBringingNoCluster run falling_back
      (each-weak (mask_steps run) (masks-preserve_clusters (quiet run) quiet-calls)) (record {
        glyphs = each-weak (glyph_steps run) (substitution-preserves_clusters (quiet run) quiet-calls).glyphs;
        lookups = substituting;
      })

  placed : EachStep IsBringingNoCluster (position_steps run)
  placed =
      EachStep-position_steps IsBringingNoCluster run falling_back (each-weak (advance_steps run) (steps_preserve_clusters.advances run))
      (each-weak (table_steps run) (steps_preserve_clusters.tables (quiet run) quiet-calls))

  -- the reversal, and what is shown
  abbrev turning : List Step
  turning =
      step reversed
      ∷ step (deleted_removed run.lookups run.decisions)
      ∷ step selectors_replaced
      ∷ step (ignorables_hidden run.face)
      ∷ []

  turned : EachStep IsBringingNoCluster turning
  turned =
      let shown = steps_preserve_clusters.showing (quiet run) quiet-calls in (
        (λ b monotone. let reverses = steps_preserve_clusters.reversal b in
            record { none_new = reverses.none_new; direction = reverses.direction; flags = reverses.flags; level = reverses.level }),
        (weak shown.0, (weak shown.1.0, (weak shown.1.1.0, tt))),
      )

  -- ---- the last hook

  abbrev last : Buffer → Buffer
  last = hook_if run.constants.has_postprocess_glyphs run.hooks (λ h. h.postprocess)

  last-is : last ≡ ends.hooks.postprocess
  last-is = rw (ends.used, ends.given) refl

  module _ (target : Direction) (planned : run.direction ≡ target) (lawful : LawfulReorder run.rules.reorder)
      (reordering : HookPreservesClusters run.rules) (From : ℕ → Type 0) where
    shown-last : (b : Buffer) → Comes From b → IsShown From target (last b)
    shown-last b comes =
        let order = ends.postprocess b comes.monotone in
        subst (λ (f : Buffer → Buffer). IsShown From target (f b)) (sym last-is) (record {
          comes = comes-brought comes order.none;
          ordered = subst (λ (d : Direction). IsOrderedFor (is_backward d) (clusters (ends.hooks.postprocess b).items)) planned order.ordered;
        })

    ending : Leads (Comes From) (step last ∷ step flags_propagated ∷ []) (IsShown From target)
    ending = record {
      leads = λ b comes.
          let shown = shown-last b comes in
          (IsPreserved-shown From target).kept (last b) (flags_propagated (last b)) shown (steps_preserve_clusters.flags (last b) shown.comes.monotone);
    }

    normalised : EachStep IsBringingNoCluster (normalising run.rules ∷ [])
    normalised = (weak (PreservesOrder-normalized run.rules lawful reordering), tt)

    -- a whole run, from what is known of the text as it is prepared
    pub shown-in_the_end : (b : Buffer) → IsMonotoneLevel b.cluster_level → IsNonDecreasing (clusters b.items)
        → ((k : ℕ) → Contains (clusters (run_steps (prepare_steps run target) b).items) k → From k)
        → IsShown From target (run_steps (all_steps run target) b)
    shown-in_the_end b monotone rising from =
        let order = preparing_preserves_order (quiet run) target b quiet-calls monotone rising in
        let prepares : Leads (λ c. c ≡ b) (prepare_steps run target) (Comes From) = record {
          leads = λ c same. rw same (record { from = from; monotone = subst IsMonotoneLevel (sym order.level) monotone });
        } in
        let ends : List Step = step last ∷ step flags_propagated ∷ [] in
        (Leads-then {steps = prepare_steps run target} {more = normalising run.rules ∷ (glyph_phase run ++ (position_steps run ++ (turning ++ ends)))} prepares
        (Leads-then {steps = normalising run.rules ∷ []} {more = glyph_phase run ++ (position_steps run ++ (turning ++ ends))}
        (Leads-comes From (normalising run.rules ∷ []) normalised)
        (Leads-then {steps = glyph_phase run} {more = position_steps run ++ (turning ++ ends)} (Leads-comes From (glyph_phase run) glyphs)
        (Leads-then {steps = position_steps run} {more = turning ++ ends} (Leads-comes From (position_steps run) placed)
        (Leads-then {steps = turning} {more = ends} (Leads-comes From turning turned) ending))))).leads b refl
