-- The flags of a whole run: one set for each cluster.
use Rattle.std.proofs.Common.{◌≡◌, ◌==◌, false, List, [], ◌∷◌, ◌++◌, bit_and, refl, subst, sym, ◌∙◌}
use Rattle.shape_items.specs.Buffer.{Buffer}
use Rattle.shape_items.specs.Flags.{flags_propagated}
use Rattle.shape_items.specs.Items.{Item}
use Rattle.shape_buffer.specs.Preservation.{IsFlagPreserving, EachStep}
use Rattle.shape_buffer.specs.Layout.{LawfulMasks}
use Rattle.shape_buffer.specs.Outcome.{Step, step, run_steps}
use Rattle.shape_common.specs.declared.flags.BufferFlags.{BufferFlags}
use Rattle.shape_common.specs.declared.text_types.Direction.{Direction}
use Rattle.shape_buffer.proofs.Flags.HonestLemmas.{IsHonest, honest-preserved, one_set-propagated, concat-propagated}
use Rattle.shape_buffer.proofs.Steps.PreservationLemmas.{EachStep-front}
use Rattle.shape_fallback.proofs.PreservationLemmas.{fallback-preserves_flags}
use Rattle.shape_normalize.proofs.Normalized.NormalFlagLemmas.{PreservesFlags-normalized}
use Rattle.shape_normalize.proofs.Hooks.ReorderLemmas.{LawfulReorder}
use Rattle.shape_plan.specs.Decisions.{MasksAreFeatures}
use Rattle.shape_plan.specs.Preservation.{RunPreservesFlags}
use Rattle.shape_plan.specs.Run.{Run}
use Rattle.shape_glyphs.specs.Steps.{position_steps, show_steps, finish_steps}
use Rattle.shape_glyphs.specs.Reversal.{reversed}
use Rattle.shape_glyphs.proofs.StepPreservation.{steps_preserve_flags}
use Rattle.shape_prepare.specs.Begun.{begun}
use Rattle.shape_prepare.specs.ClustersFormed.{clusters_formed}
use Rattle.shape_prepare.specs.DottedCircle.{dotted_circled}
use Rattle.shape_prepare.specs.Graphemes.{graphemes_marked}
use Rattle.shape_prepare.specs.PrepareSteps.{order_steps, prepare_steps}
use Rattle.shape_prepare.proofs.Preservation.StepPreservation.{begun-preserves_flags, begun-honest}
use Rattle.shape_prepare.proofs.Preservation.PreservationLemmas.{preparing_preserves_flags}
use Rattle.shape_prepare.proofs.Masking.MaskPreservation.{masks-preserve_flags}
use Rattle.shape_glyphs.proofs.SubstitutionPreservation.{substitution-preserves_flags}
use Rattle.shape_pipeline.specs.Headline.{HasFlagsByCluster}
use Rattle.shape_pipeline.specs.Shaped.{normalising, glyph_phase, shaped_steps, all_steps, entered, finished, run_made}
use Rattle.shape_pipeline.proofs.PhaseLemmas.{Leads, Leads-then, EachStep-glyph_phase, EachStep-position_steps}

-- the buffer's flags are the caller's
abbrev HasFlags : BufferFlags → Buffer → Type 0
HasFlags flags b = b.flags ≡ flags

-- and the run has seen it if a glyph has a flag
record IsSeen (flags : BufferFlags) (b : Buffer) : Type 0 where
  honest : IsHonest b
  asked : b.flags ≡ flags

record IsFlagged (flags : BufferFlags) (b : Buffer) : Type 0 where
  by_cluster : (text : Buffer) → text.flags ≡ flags → HasFlagsByCluster text b

seen-run : (flags : BufferFlags) (steps : List Step) → EachStep IsFlagPreserving steps → Leads (IsSeen flags) steps (IsSeen flags)
seen-run flags steps keep = record { leads = along steps keep }
  where
    along : (steps : List Step) → EachStep IsFlagPreserving steps → (b : Buffer) → IsSeen flags b → IsSeen flags (run_steps steps b)
    along [] keep b seen = seen
    along (step ∷ steps) keep b seen =
        along steps keep.1 (step.makes b) (record { honest = honest-preserved (keep.0 b) seen.honest; asked = (keep.0 b).flags ∙ seen.asked })

module _ (run : Run) (target : Direction) (flags : BufferFlags) (lawful : LawfulReorder run.rules.reorder)
    (masks : LawfulMasks run.map) (features : MasksAreFeatures run.decisions) (preserves : RunPreservesFlags run) where
  -- the steps of preparing after the first, which takes every flag away
  abbrev after_first : List Step
  after_first =
      (step (graphemes_marked run.unicode) ∷ step (dotted_circled run.unicode run.face) ∷ step clusters_formed ∷ [])
      ++ order_steps run target

  seen-prepared : Leads (HasFlags flags) (prepare_steps run target) (IsSeen flags)
  seen-prepared =
      let each = preparing_preserves_flags run target (record { global = masks.global_mask; mirroring = features.rtlm }) preserves in
      record {
        leads = λ b is. (seen-run flags after_first each.1).leads (begun run.map.global_mask b) (record {
          honest = begun-honest run.map.global_mask b masks.global_mask;
          asked = (begun-preserves_flags run.map.global_mask masks.global_mask b).flags ∙ is;
        });
      }

  seen-normalised : Leads (IsSeen flags) (normalising run.rules ∷ []) (IsSeen flags)
  seen-normalised = seen-run flags (normalising run.rules ∷ []) (PreservesFlags-normalized run.rules lawful, tt)

  seen-glyphs : Leads (IsSeen flags) (glyph_phase run) (IsSeen flags)
  seen-glyphs = seen-run flags (glyph_phase run)
      (EachStep-glyph_phase IsFlagPreserving run (fallback-preserves_flags run.unicode run.face run.direction run.script run.decisions)
      (masks-preserve_flags run masks (record { frac = features.frac; numr = features.numr; dnom = features.dnom }) preserves)
      (substitution-preserves_flags run preserves))

  seen-placed : Leads (IsSeen flags) (position_steps run) (IsSeen flags)
  seen-placed = seen-run flags (position_steps run)
      (EachStep-position_steps IsFlagPreserving run (fallback-preserves_flags run.unicode run.face run.direction run.script run.decisions)
      (steps_preserve_flags.advances run) (steps_preserve_flags.tables run preserves))

  flagged-last : Leads (IsSeen flags) (step flags_propagated ∷ []) (IsFlagged flags)
  flagged-last = record {
    leads = λ b seen. record {
      by_cluster = λ text same. record {
        one_set = one_set-propagated b seen.honest;
        concat = λ off. concat-propagated b seen.honest
            (subst (λ (f : BufferFlags). (bit_and f.0 64 == 64) ≡ false) (same ∙ sym seen.asked) off);
      };
    };
  }

  flagged-finished : Leads (IsSeen flags) (finish_steps run) (IsFlagged flags)
  flagged-finished = Leads-then {steps = step reversed ∷ show_steps run} {more = step flags_propagated ∷ []}
      (seen-run flags (step reversed ∷ show_steps run)
      (EachStep-front IsFlagPreserving (step reversed ∷ show_steps run) (step flags_propagated ∷ []) (steps_preserve_flags.finish run preserves)))
      flagged-last

  flagged-shaped : Leads (IsSeen flags) (shaped_steps run) (IsFlagged flags)
  flagged-shaped = Leads-then {steps = glyph_phase run} {more = position_steps run ++ finish_steps run} seen-glyphs
      (Leads-then {steps = position_steps run} {more = finish_steps run} seen-placed flagged-finished)

  flagged-all : Leads (HasFlags flags) (all_steps run target) (IsFlagged flags)
  flagged-all = Leads-then {steps = prepare_steps run target} {more = normalising run.rules ∷ shaped_steps run} seen-prepared
      (Leads-then {steps = normalising run.rules ∷ []} {more = shaped_steps run} seen-normalised flagged-shaped)

-- ---- what is handed out

no_items : (text b : Buffer) → b.items ≡ [] → HasFlagsByCluster text b
no_items text b none = record { one_set = rw none tt; concat = λ off. rw none refl }

pub flags-run_made : (run : Run) (target : Direction) → LawfulReorder run.rules.reorder → LawfulMasks run.map
    → MasksAreFeatures run.decisions
    → RunPreservesFlags run → (text b : Buffer) → b.flags ≡ text.flags → HasFlagsByCluster text (run_made run target b)
flags-run_made run target lawful masks features preserves text b same = from b.items refl
  where
    from : (items : List Item) → b.items ≡ items
        → HasFlagsByCluster text (elim items [ [] ↦ b | _ ∷ _ ↦ finished target (run_steps (all_steps run target) (entered b)) ])
    from [] is = no_items text b is
    from (x ∷ xs) is =
        let flagged = ((flagged-all run target text.flags lawful masks features preserves).leads (entered b) same).by_cluster text refl in
        record { one_set = flagged.one_set; concat = flagged.concat }
