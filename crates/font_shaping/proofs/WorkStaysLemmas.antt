-- what a run does besides its lookups leaves what they may ask for as it is
use Rattle.std.proofs.Common.{Bool, Option, Some, None, ◌==◌, ◌&&◌, length, refl, ◌∙◌, inl, inr}
use Rattle.std.specs.Prelude.{not}
use Rattle.std.proofs.lemmas.Bool.{cases_Bool}
use Rattle.shape_common.specs.Direction.{is_backward}
use Rattle.shape_common.specs.Face.{FaceMeaning}
use Rattle.shape_common.specs.Unicode.{UnicodeMeaning}
use Rattle.shape_common.specs.declared.text_types.Direction.{Direction}
use Rattle.shape_common.specs.declared.text_types.GlyphId.{GlyphId}
use Rattle.shape_common.specs.declared.text_types.Script.{Script}
use Rattle.shape_items.proofs.Deletion.DeleteLemmas.{hand_on-cases, IsPreservedByLoss, preserved_by_deletion}
use Rattle.shape_items.specs.Buffer.{Buffer}
use Rattle.shape_items.specs.Delete.{deleted}
use Rattle.shape_items.specs.Flags.{flags_propagated}
use Rattle.shape_items.specs.PreservesFlags.{has_glyph_flags}
use Rattle.shape_items.specs.Items.{Item, is_ignorable_item}
use Rattle.shape_buffer.specs.PositionWalks.{positions_mapped}
use Rattle.shape_buffer.specs.Preservation.{EachLookup}
use Rattle.shape_buffer.specs.Walks.{items_mapped}
use Rattle.shape_plan.specs.Run.{Run}
use Rattle.shape_plan.specs.declared.decisions.Decisions.{Decisions}
use Rattle.shape_prepare.specs.Begun.{begun}
use Rattle.shape_prepare.specs.ClustersFormed.{clusters_formed}
use Rattle.shape_prepare.specs.DottedCircle.{dotted_circled}
use Rattle.shape_prepare.specs.Fractions.{fractions_masked}
use Rattle.shape_prepare.specs.Graphemes.{graphemes_marked}
use Rattle.shape_prepare.specs.NativeOrder.{natively_ordered}
use Rattle.shape_prepare.specs.Ranges.{ranges_masked}
use Rattle.shape_prepare.specs.Rotated.{rotated}
use Rattle.shape_fallback.specs.Bases.{Span, bases, marks_of, position_span, bases_positioned, marks_positioned}
use Rattle.shape_fallback.specs.DueSteps.{has_space_fallback, spaces_step, marks_adjusted}
use Rattle.shape_fallback.specs.Recategorized.{recategorized}
use Rattle.shape_fallback.specs.Spaces.{spaces_placed}
use Rattle.shape_fallback.specs.declared.ot_shape_fallback.marks.MarkFrame.{MarkFrame}
use Rattle.shape_glyphs.specs.Advances.{positions_cleared, advanced}
use Rattle.shape_glyphs.specs.Classes.{glyphs_mapped, classes_synthesised}
use Rattle.shape_glyphs.specs.Ignorables.{hides_ignorables, removes_ignorables, ignorables_zeroed, replaced_or_deleted, ignorables_hidden}
use Rattle.shape_glyphs.specs.Reversal.{reversed}
use Rattle.shape_glyphs.specs.Selectors.{has_selector_fallback, selectors_replaced_by, selectors_replaced}
use Rattle.shape_glyphs.specs.Zeroing.{marks_zeroed, zero_width_time, ZERO_WIDTH_MARKS_BY_GDEF_EARLY, ZERO_WIDTH_MARKS_BY_GDEF_LATE}
use Rattle.opentype_layout.specs.Tries.{NeverRaises}
use Rattle.font_shaping.specs.RunTries.{HooksNeverRaise}
use Rattle.font_shaping.proofs.RunTriesLemmas.{OthersNeverRaise, if-never}
use Rattle.font_shaping.proofs.SameWorkLemmas.{Same, Stays, never, same-fold, same-break, same-merge}
use Rattle.font_shaping.proofs.EarlyWorkLemmas.{same-begun, same-marked, same-circled, same-formed, same-native, same-rotated, normalized-less, same-fractions, same-ranges}

-- ---- glyphs and positions

same-recategorized : Stays recategorized
unfolding items_mapped
same-recategorized b = refl

same-glyphs : Stays glyphs_mapped
unfolding glyphs_mapped items_mapped
same-glyphs b = refl

same-classes : Stays classes_synthesised
unfolding classes_synthesised items_mapped
same-classes b = refl

same-cleared : Stays positions_cleared
unfolding positions_mapped
same-cleared b = refl

same-advanced : (face : FaceMeaning) → Stays (advanced face)
unfolding advanced positions_mapped
same-advanced face b = refl

same-spaces : (face : FaceMeaning) → Stays (spaces_step face)
unfolding spaces_step spaces_placed positions_mapped
same-spaces face b = elim (cases_Bool (has_space_fallback b)) [
  | inl some ↦ rw some refl
  | inr none ↦ rw none refl
]

same-zeroed : (adjust : Bool) → Stays (marks_zeroed adjust)
unfolding marks_zeroed positions_mapped
same-zeroed adjust b = refl

same-span : (face : FaceMeaning) (s : MarkFrame) (b : Buffer) (span : Span) → Same b (position_span face s b span)
unfolding position_span
same-span face s b span = same-break span.start span.end b

same-marks : (unicode : UnicodeMeaning) (face : FaceMeaning) (direction : Direction) (script : Option Script) (decisions : Decisions)
    → Stays (marks_adjusted unicode face direction script decisions)
unfolding marks_adjusted marks_positioned bases_positioned
same-marks unicode face direction script decisions b = same-fold (position_span face _) (same-span face _) (bases 0 (marks_of b)) b

same-ignorables : Stays ignorables_zeroed
unfolding ignorables_zeroed positions_mapped
same-ignorables b = elim (cases_Bool (hides_ignorables b && not (removes_ignorables b))) [
  | inl hides ↦ rw hides refl
  | inr shows ↦ rw shows refl
]

-- ---- the end

same-reversed : Stays reversed
unfolding reversed
same-reversed b = elim (cases_Bool (is_backward b.direction)) [
  | inl backward ↦ rw backward refl
  | inr forward ↦ rw forward refl
]

same-replaced_by : (o : Option GlyphId) → Stays (selectors_replaced_by o)
same-replaced_by None b = refl
same-replaced_by (Some glyph) b = refl

same-selectors : Stays selectors_replaced
unfolding selectors_replaced
same-selectors b = elim (cases_Bool (has_selector_fallback b)) [
  | inl some ↦ rw some (same-replaced_by b.not_found_variation_selector_glyph b)
  | inr none ↦ rw none refl
]

same-lost : (b : Buffer) → IsPreservedByLoss (Same b)
same-lost b k x rest c is so_far = hand_on-cases (Same b) k x rest c so_far so_far (λ more. same-merge 0 2 c ∙ so_far)

same-deleted : (picks : Item → Bool) → Stays (deleted picks)
same-deleted picks b = preserved_by_deletion (Same b) (same-lost b) picks (length b.items) 0 b refl

same-shown : (o : Option GlyphId) → Stays (replaced_or_deleted o)
unfolding items_mapped
same-shown None b = same-deleted is_ignorable_item b
same-shown (Some glyph) b = refl

same-hidden : (face : FaceMeaning) → Stays (ignorables_hidden face)
unfolding ignorables_hidden
same-hidden face b = elim (cases_Bool (hides_ignorables b)) [
  | inl hides ↦ rw hides (same-shown _ b)
  | inr shows ↦ rw shows refl
]

same-propagated : Stays flags_propagated
unfolding flags_propagated
same-propagated b = elim (cases_Bool (has_glyph_flags b)) [
  | inl some ↦ rw some refl
  | inr none ↦ rw none refl
]

-- ---- a run

pub others-never : (run : Run) (target : Direction) → EachLookup NeverRaises run.lookups → HooksNeverRaise run → OthersNeverRaise run target
others-never run target engine hooks =
    let marks = marks_adjusted run.unicode run.face run.direction run.script run.decisions in
    let zeroed = marks_zeroed run.decisions.adjust_mark_positioning_when_zeroing in
    let zeroed_never : NeverRaises zeroed = never zeroed (same-zeroed run.decisions.adjust_mark_positioning_when_zeroing) in
    record {
      preparing = (
        never (begun run.map.global_mask) (same-begun run.map.global_mask),
        (
          never (graphemes_marked run.unicode) (same-marked run.unicode),
          (
            never (dotted_circled run.unicode run.face) (same-circled run.unicode run.face),
            (
              never clusters_formed same-formed,
              (
                never (natively_ordered run.unicode) (same-native run.unicode),
                (
                  hooks.preprocess,
                  (
                    never (rotated run.unicode run.face run.decisions target) (same-rotated run.unicode run.face run.decisions target),
                    tt,
                  ),
                ),
              ),
            ),
          ),
        ),
      );
      normalising = normalized-less run.rules hooks.reorder;
      masks = (
        never (fractions_masked run.decisions) (same-fractions run.decisions),
        (
          hooks.setup_masks,
          (
            never (ranges_masked run.map run.user_features) (same-ranges run.map run.user_features),
            tt,
          ),
        ),
      );
      categories = if-never run.decisions.fallback_mark_positioning recategorized (never recategorized same-recategorized);
      glyphs = (
        never glyphs_mapped same-glyphs,
        (
          engine.substitute_start,
          (
            if-never run.decisions.fallback_glyph_classes classes_synthesised (never classes_synthesised same-classes),
            tt,
          ),
        ),
      );
      pauses = hooks.pauses;
      advances = (
        never positions_cleared same-cleared,
        (
          never (advanced run.face) (same-advanced run.face),
          tt,
        ),
      );
      spaces = never (spaces_step run.face) (same-spaces run.face);
      early =
          if-never (run.decisions.zero_marks && (zero_width_time run.constants run.hooks == ZERO_WIDTH_MARKS_BY_GDEF_EARLY)) zeroed
          zeroed_never;
      late =
          if-never (run.decisions.zero_marks && (zero_width_time run.constants run.hooks == ZERO_WIDTH_MARKS_BY_GDEF_LATE)) zeroed
          zeroed_never;
      closing = (
        engine.position_finish_advances,
        (
          never ignorables_zeroed same-ignorables,
          (
            if-never run.decisions.apply_morx run.lookups.aat_zero_width_deleted engine.aat_zero_width_deleted,
            (
              engine.position_finish_offsets,
              tt,
            ),
          ),
        ),
      );
      marks =
          if-never run.decisions.fallback_mark_positioning marks
          (never marks (same-marks run.unicode run.face run.direction run.script run.decisions));
      finishing = (
        never reversed same-reversed,
        (
          if-never (run.decisions.apply_morx && not run.decisions.apply_gpos) run.lookups.aat_remove_deleted engine.aat_remove_deleted,
          (
            never selectors_replaced same-selectors,
            (
              never (ignorables_hidden run.face) (same-hidden run.face),
              (
                hooks.postprocess,
                (
                  never flags_propagated same-propagated,
                  tt,
                ),
              ),
            ),
          ),
        ),
      );
    }
