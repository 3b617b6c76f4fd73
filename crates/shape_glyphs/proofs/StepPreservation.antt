-- Each step of positions and of the end of a run preserves clusters, flags and the number of positions. Clusters and flags
-- are stated at once, as a relation of a buffer before and after a step.
use Rattle.std.proofs.Common.{◌≡◌, ℕ, Bool, true, false, List, [], ◌∷◌, Option, Some, None, refl, ap, sym, ◌∙◌, inl, inr}
use Rattle.std.specs.Prelude.{◌==◌, ◌&&◌, not, if◌then◌else◌}
use Rattle.std.proofs.lemmas.Bool.{and_parts, cases_Bool}
use Rattle.std.proofs.lemmas.List.{length-map}
use Rattle.shape_items.specs.Buffer.{Buffer}
use Rattle.shape_items.specs.Clusters.{clusters}
use Rattle.shape_common.specs.Direction.{is_horizontal, is_forward}
use Rattle.shape_common.specs.Face.{FaceMeaning}
use Rattle.shape_items.specs.Flags.{flags_propagated, flagged_from, mask_after}
use Rattle.shape_items.specs.Items.{Item, is_ignorable_item}
use Rattle.shape_buffer.specs.Preservation.{IsClusterPreserving, IsFlagPreserving, PreservesOrder, EachStep}
use Rattle.shape_items.specs.ClusterOrder.{IsMonotoneLevel}
use Rattle.shape_items.specs.PreservesFlags.{PreservesFlags, has_glyph_flags}
use Rattle.shape_common.specs.declared.flags.BufferFlags.{BufferFlags}
use Rattle.shape_buffer.specs.PositionWalks.{positions_mapped}
use Rattle.shape_common.specs.declared.positions.GlyphPosition.{GlyphPosition}
use Rattle.shape_common.specs.declared.text_types.GlyphId.{GlyphId}
use Rattle.shape_buffer.specs.Outcome.{step as plain_step}
use Rattle.shape_items.proofs.Flags.ClusterRunLemmas.{flagged-runs}
use Rattle.shape_items.proofs.Deletion.DeletePreserves.{deleted_preserves_clusters, deleted_preserves_flags}
use Rattle.shape_items.proofs.Flags.FlagLemmas.{PreservesFlags-same}
use Rattle.shape_buffer.proofs.Loops.PositionWalkLemmas.{length-positions_over}
use Rattle.shape_buffer.proofs.Steps.PreservationLemmas.{EachStep-append, PreservesClusters-equal, PreservesOrder-same, clusters-map, order-items_mapped, flags-items_mapped}
use Rattle.shape_plan.specs.Preservation.{EachCall}
use Rattle.shape_plan.specs.Run.{Run, step_if}
use Rattle.shape_glyphs.specs.Advances.{advanced, advanced_position}
use Rattle.shape_glyphs.specs.Ignorables.{ignorables_zeroed, ignorables_hidden, shown_as, replaced_or_deleted, zeroed_ignorable, hides_ignorables, removes_ignorables, unseen_glyph}
use Rattle.shape_glyphs.specs.Preservation.{StepsPreserveClusters, StepsPreserveFlags, StepsPreserveCount, StepsPreserve}
use Rattle.shape_glyphs.specs.StepEffects.{PreservesLengths}
use Rattle.shape_glyphs.specs.Selectors.{selectors_replaced, selectors_replaced_by, not_found_item, not_found_position, has_selector_fallback}
use Rattle.shape_glyphs.specs.Steps.{place_steps, close_steps, table_steps, show_steps}
use Rattle.shape_glyphs.specs.Tables.{table_positioned}
use Rattle.shape_glyphs.specs.Zeroing.{marks_zeroed, zeroed_mark, zeroed_at, zero_width_time}
use Rattle.shape_glyphs.proofs.CountLemmas.{as_many-hidden, as_many-flags}
use Rattle.shape_glyphs.proofs.DeletionLemmas.{settings-deleted}
use Rattle.shape_glyphs.proofs.PreservationLemmas.{some_has-map, order-positions_mapped, flags-positions_mapped, as_many-positions_mapped}
use Rattle.shape_glyphs.proofs.ReversalLemmas.{reversal-reverses, flags-reversed, as_many-reversed}
use Rattle.shape_plan.proofs.PreservationLemmas.{preserving-hook, preserving-step_if, preserving-step_due}

-- ---- relations of a buffer before and after

-- each buffer is in that relation with what the step makes of it
abbrev Leads : (Buffer → Buffer → Type 0) → (Buffer → Buffer) → Type 0
Leads R f = (b : Buffer) → R b (f b)

-- a relation of each buffer with itself, with what a walk over positions makes of it, and with what the two steps that
-- write glyphs do
record Holds (R : Buffer → Buffer → Type 0) : Type 0 where
  same : (b : Buffer) → R b b
  positions : (f : Item → GlyphPosition → GlyphPosition) → Leads R (positions_mapped f)
  selectors : (glyph : Option GlyphId) → Leads R (selectors_replaced_by glyph)
  hiding : (glyph : Option GlyphId) → Leads R (replaced_or_deleted glyph)

-- ---- steps

leads-advanced : (R : Buffer → Buffer → Type 0) → Holds R → (face : FaceMeaning) → Leads R (advanced face)
unfolding advanced
leads-advanced R holds face b = holds.positions (advanced_position face (is_horizontal b.direction)) b

leads-marks_zeroed : (R : Buffer → Buffer → Type 0) → Holds R → (adjust : Bool) → Leads R (marks_zeroed adjust)
unfolding marks_zeroed
leads-marks_zeroed R holds adjust b = holds.positions (zeroed_mark (adjust && is_forward b.direction)) b

leads-ignorables_zeroed : (R : Buffer → Buffer → Type 0) → Holds R → Leads R ignorables_zeroed
unfolding ignorables_zeroed
leads-ignorables_zeroed R holds b = elim (cases_Bool (hides_ignorables b && not (removes_ignorables b))) [
  | inl due ↦ rw due (holds.positions zeroed_ignorable b)
  | inr not_due ↦ rw not_due (holds.same b)
]

leads-selectors : (R : Buffer → Buffer → Type 0) → Holds R → Leads R selectors_replaced
unfolding selectors_replaced
leads-selectors R holds b = elim (cases_Bool (has_selector_fallback b)) [
  | inl seen ↦ rw seen (holds.selectors b.not_found_variation_selector_glyph b)
  | inr none ↦ rw none (holds.same b)
]

leads-hidden : (R : Buffer → Buffer → Type 0) → Holds R → (face : FaceMeaning) → Leads R (ignorables_hidden face)
unfolding ignorables_hidden
leads-hidden R holds face b = elim (cases_Bool (hides_ignorables b)) [
  | inl due ↦ rw due (holds.hiding (if removes_ignorables b then None else unseen_glyph face b) b)
  | inr not_due ↦ rw not_due (holds.same b)
]

leads-zeroed_at : (R : Buffer → Buffer → Type 0) → Holds R → (time : ℕ) (run : Run)
    → Leads R (zeroed_at time run.decisions run.constants run.hooks)
leads-zeroed_at R holds time run =
    preserving-step_if (Leads R) holds.same (run.decisions.zero_marks && (zero_width_time run.constants run.hooks == time))
    (leads-marks_zeroed R holds run.decisions.adjust_mark_positioning_when_zeroing)

leads-tables : (R : Buffer → Buffer → Type 0) → Holds R → (run : Run) → EachCall (Leads R) run
    → Leads R (table_positioned run.lookups run.decisions)
leads-tables R holds run preserves = by_gpos run.decisions.apply_gpos refl
  where
    by_gpos : (gpos : Bool) → run.decisions.apply_gpos ≡ gpos
        → Leads R (if gpos then run.lookups.position
        else step_if run.decisions.apply_kerx (run.lookups.aat_position run.decisions.kern_mask))
    by_gpos true due = preserves.lookups.position due
    by_gpos false not_due = preserving-step_due (Leads R) holds.same run.decisions.apply_kerx (preserves.lookups.aat_position not_due)

-- ---- the lists

leads-place_steps : (R : Buffer → Buffer → Type 0) → Holds R → (run : Run) → EachCall (Leads R) run → EachStep (Leads R) (place_steps run)
leads-place_steps R holds run preserves = (
  preserves.lookups.position_start,
  (
    leads-zeroed_at R holds 1 run,
    (
      leads-tables R holds run preserves,
      (
        preserving-step_due (Leads R) holds.same run.decisions.apply_kern preserves.lookups.kern,
        (
          preserving-step_due (Leads R) holds.same run.decisions.apply_trak preserves.lookups.aat_track,
          (leads-zeroed_at R holds 2 run, tt),
        ),
      ),
    ),
  ),
)

leads-close_steps : (R : Buffer → Buffer → Type 0) → Holds R → (run : Run) → EachCall (Leads R) run → EachStep (Leads R) (close_steps run)
leads-close_steps R holds run preserves = (
  preserves.lookups.position_finish_advances,
  (
    leads-ignorables_zeroed R holds,
    (
      preserving-step_due (Leads R) holds.same run.decisions.apply_morx preserves.lookups.aat_zero_width_deleted,
      (preserves.lookups.position_finish_offsets, tt),
    ),
  ),
)

leads-table_steps : (R : Buffer → Buffer → Type 0) → Holds R → (run : Run) → EachCall (Leads R) run → EachStep (Leads R) (table_steps run)
leads-table_steps R holds run preserves =
    EachStep-append (Leads R) (place_steps run) (close_steps run) (leads-place_steps R holds run preserves) (leads-close_steps R holds run preserves)

leads-show_steps : (R : Buffer → Buffer → Type 0) → Holds R → (run : Run) → EachCall (Leads R) run → EachStep (Leads R) (show_steps run)
leads-show_steps R holds run preserves = (
  preserving-step_due (Leads R) holds.same (run.decisions.apply_morx && not run.decisions.apply_gpos)
      (λ both. preserves.lookups.aat_remove_deleted (and_parts run.decisions.apply_morx (not run.decisions.apply_gpos) both).0),
  (
    leads-selectors R holds,
    (
      leads-hidden R holds run.face,
      (
        preserving-hook (Leads R) holds.same run.constants.has_postprocess_glyphs run.hooks (λ h. h.postprocess)
            (λ h is. (preserves.hooks h is).postprocess),
        tt,
      ),
    ),
  ),
)

-- ---- selectors

not_found-cluster : (glyph : GlyphId) (item : Item) → (not_found_item glyph item).cluster ≡ item.cluster
not_found-cluster glyph item = by_mark item.properties.selector_mark
  where
    by_mark : (marked : Bool)
        → (if marked then record item { glyph_id = glyph.0; properties = record item.properties { selector_mark = false } }
        else item).cluster ≡ item.cluster
    by_mark true = refl
    by_mark false = refl

not_found-mask : (glyph : GlyphId) (item : Item) → (not_found_item glyph item).mask ≡ item.mask
not_found-mask glyph item = by_mark item.properties.selector_mark
  where
    by_mark : (marked : Bool)
        → (if marked then record item { glyph_id = glyph.0; properties = record item.properties { selector_mark = false } } else item).mask
        ≡ item.mask
    by_mark true = refl
    by_mark false = refl

order-replaced_by : (glyph : Option GlyphId) → IsClusterPreserving (selectors_replaced_by glyph)
order-replaced_by None b monotone = PreservesOrder-same b
order-replaced_by (Some glyph) b monotone =
    record {
      clusters = PreservesClusters-equal _ _ (clusters-map (not_found_item glyph)
          (not_found-cluster glyph) b.items);
      direction = refl;
      flags = refl;
      level = refl;
    }

flags-replaced_by : (glyph : Option GlyphId) → IsFlagPreserving (selectors_replaced_by glyph)
flags-replaced_by None b = PreservesFlags-same b
flags-replaced_by (Some glyph) b =
    record {
      flags = refl;
      stays_set = λ set. set;
      none_new = λ flag defined some. inl
          (sym (some_has-map (not_found_item glyph) (not_found-mask glyph) flag b.items) ∙ some);
    }

-- ---- hiding

shown-cluster : (glyph : GlyphId) (item : Item) → (shown_as glyph item).cluster ≡ item.cluster
shown-cluster glyph item = by_bit (is_ignorable_item item)
  where
    by_bit : (ignorable : Bool) → (if ignorable then record item { glyph_id = glyph.0 } else item).cluster ≡ item.cluster
    by_bit true = refl
    by_bit false = refl

shown-mask : (glyph : GlyphId) (item : Item) → (shown_as glyph item).mask ≡ item.mask
shown-mask glyph item = by_bit (is_ignorable_item item)
  where
    by_bit : (ignorable : Bool) → (if ignorable then record item { glyph_id = glyph.0 } else item).mask ≡ item.mask
    by_bit true = refl
    by_bit false = refl

order-replaced_or_deleted : (glyph : Option GlyphId) → IsClusterPreserving (replaced_or_deleted glyph)
order-replaced_or_deleted None b monotone = record {
  clusters = deleted_preserves_clusters is_ignorable_item b;
  direction = (settings-deleted is_ignorable_item b).direction;
  flags = (deleted_preserves_flags is_ignorable_item b).flags;
  level = (settings-deleted is_ignorable_item b).level;
}
order-replaced_or_deleted (Some glyph) b monotone = order-items_mapped (shown_as glyph) (shown-cluster glyph) b monotone

flags-replaced_or_deleted : (glyph : Option GlyphId) → IsFlagPreserving (replaced_or_deleted glyph)
flags-replaced_or_deleted None b = deleted_preserves_flags is_ignorable_item b
flags-replaced_or_deleted (Some glyph) b = flags-items_mapped (shown_as glyph) (shown-mask glyph) b

-- ---- flags

clusters-flagged : (flags : BufferFlags) (before : Option (ℕ × ℕ)) (items : List Item)
    → clusters (flagged_from flags before items) ≡ clusters items
unfolding flagged_from
clusters-flagged flags before [] = refl
clusters-flagged flags before (x ∷ items) =
    ap (λ (cs : List ℕ). x.cluster ∷ cs) (clusters-flagged flags (Some (x.cluster, mask_after flags before x (x ∷ items))) items)

order-flags : IsClusterPreserving flags_propagated
unfolding flags_propagated
order-flags b monotone = elim (cases_Bool (has_glyph_flags b)) [
  | inl seen ↦ rw seen (record {
    clusters = PreservesClusters-equal _ _ (ap clusters (sym (flagged-runs b.flags b.items)) ∙ clusters-flagged b.flags None b.items);
    direction = refl;
    flags = refl;
    level = refl;
  })
  | inr unseen ↦ rw unseen (PreservesOrder-same b)
]

flags-flags : IsFlagPreserving flags_propagated
unfolding flags_propagated
flags-flags b = elim (cases_Bool (has_glyph_flags b)) [
  | inl seen ↦ rw seen (record { flags = refl; stays_set = λ set. set; none_new = λ flag defined some. inr seen })
  | inr unseen ↦ rw unseen (PreservesFlags-same b)
]

-- ---- clusters, and flags

order : Holds (λ b after. IsMonotoneLevel b.cluster_level → PreservesOrder b after)
order = record {
  same = λ b monotone. PreservesOrder-same b;
  positions = order-positions_mapped;
  selectors = order-replaced_by;
  hiding = order-replaced_or_deleted;
}

flags : Holds PreservesFlags
flags = record {
  same = PreservesFlags-same;
  positions = flags-positions_mapped;
  selectors = flags-replaced_by;
  hiding = flags-replaced_or_deleted;
}

pub steps_preserve_clusters : StepsPreserveClusters
steps_preserve_clusters = record {
  advances = λ run. (order-positions_mapped _, (leads-advanced _ order run.face, tt));
  tables = leads-table_steps _ order;
  reversal = reversal-reverses;
  showing = leads-show_steps _ order;
  flags = order-flags;
}

pub steps_preserve_flags : StepsPreserveFlags
steps_preserve_flags = record {
  advances = λ run. (flags-positions_mapped _, (leads-advanced _ flags run.face, tt));
  tables = leads-table_steps _ flags;
  finish = λ run preserves. (
    flags-reversed,
    EachStep-append IsFlagPreserving (show_steps run) (plain_step flags_propagated ∷ [])
        (leads-show_steps _ flags run preserves) (flags-flags, tt),
  );
}

-- ---- the number of positions

as_many-advanced : (face : FaceMeaning) → PreservesLengths (advanced face)
unfolding advanced
as_many-advanced face b as_many = as_many-positions_mapped (advanced_position face (is_horizontal b.direction)) b as_many

as_many-marks_zeroed : (adjust : Bool) → PreservesLengths (marks_zeroed adjust)
unfolding marks_zeroed
as_many-marks_zeroed adjust b as_many = as_many-positions_mapped (zeroed_mark (adjust && is_forward b.direction)) b as_many

as_many-ignorables_zeroed : PreservesLengths ignorables_zeroed
unfolding ignorables_zeroed
as_many-ignorables_zeroed b as_many = elim (cases_Bool (hides_ignorables b && not (removes_ignorables b))) [
  | inl due ↦ rw due (as_many-positions_mapped zeroed_ignorable b as_many)
  | inr not_due ↦ rw not_due as_many
]

as_many-replaced_by : (glyph : Option GlyphId) → PreservesLengths (selectors_replaced_by glyph)
as_many-replaced_by None b as_many = as_many
as_many-replaced_by (Some glyph) b as_many =
    length-positions_over not_found_position b.items b.positions as_many ∙ sym (length-map b.items (not_found_item glyph))

as_many-selectors : PreservesLengths selectors_replaced
unfolding selectors_replaced
as_many-selectors b as_many = elim (cases_Bool (has_selector_fallback b)) [
  | inl seen ↦ rw seen (as_many-replaced_by b.not_found_variation_selector_glyph b as_many)
  | inr none ↦ rw none as_many
]

pub steps_preserve_count : StepsPreserveCount
steps_preserve_count = record {
  cleared = as_many-positions_mapped _;
  advances = as_many-advanced;
  marks = as_many-marks_zeroed;
  ignorables = as_many-ignorables_zeroed;
  reversal = as_many-reversed;
  selectors = as_many-selectors;
  hiding = as_many-hidden;
  flags = as_many-flags;
}

pub steps_preserve : StepsPreserve
steps_preserve = record { clusters = steps_preserve_clusters; flags = steps_preserve_flags; count = steps_preserve_count }
