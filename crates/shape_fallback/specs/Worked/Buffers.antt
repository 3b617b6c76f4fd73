-- Whole buffers of bases and marks, worked out by hand.
use Rattle.std.specs.Prelude.{◌≡◌, ℕ, ℤ, pos, negsuc, Bool, true, false, ◌==◌, if◌then◌else◌, List, [], ◌∷◌, map, Option, Some, None, refl}
use Rattle.std.specs.Int.{int_wrap}
use Rattle.shape_items.specs.Buffer.{Buffer, new_buffer}
use Rattle.shape_common.specs.Face.{FaceMeaning}
use Rattle.shape_items.specs.Items.{Item, new_item}
use Rattle.shape_buffer.specs.Walks.{items_mapped}
use Rattle.shape_common.specs.Wrapping.{◌+ʷ◌, ◌-ʷ◌, ◌*ʷ◌, neg_w}
use Rattle.shape_common.specs.declared.general_category.hb_unicode_general_category_t.{hb_unicode_general_category_t}
use Rattle.shape_common.specs.declared.general_category.hb_unicode_general_category_t.TheVariants.{LowercaseLetter, NonspacingMark, SpacingMark}
use Rattle.shape_common.specs.declared.positions.GlyphPosition.{GlyphPosition}
use Rattle.shape_common.specs.declared.text_types.Direction.{Direction}
use Rattle.shape_common.specs.declared.text_types.Direction.TheVariants.{LeftToRight, RightToLeft, TopToBottom}
use Rattle.shape_plan.specs.Worked.Decisions.{no_decisions}
use Rattle.shape_plan.specs.declared.decisions.Decisions.{Decisions}
use Rattle.shape_fallback.specs.Bases.{position_span, base_at, bases, bases_positioned, bases_marked, runs_to_right, frame_of, marks_positioned}
use Rattle.shape_fallback.specs.Extents.{Extents}
use Rattle.shape_fallback.specs.MarkState.{component_of, place_of, component_extents, at_component, with_component, at_ccc, moved_past, moved}
use Rattle.shape_fallback.specs.MarkState.{place_in, place_mark}
use Rattle.shape_fallback.specs.Marks.{marks_placed, zeroed_position, zeroed, base_of, first_state, around_base}
use Rattle.shape_fallback.specs.OneMark.{is_double, is_left, is_right, is_below, is_above, is_attached, agree, lowered, raised, mark_placed}
use Rattle.shape_fallback.specs.Recategorized.{is_nonspacing, recategorized_item}
use Rattle.shape_fallback.specs.DueSteps.{recategorize_step, marks_step, marks_adjusted}
use Rattle.shape_fallback.specs.Worked.Ccc.{worked_mark}
use Rattle.shape_fallback.specs.Worked.Marks.{at, component_mark, some_script, worked_unicode}
use Rattle.shape_fallback.specs.Worked.OneMark.{extents}
use Rattle.shape_fallback.specs.Worked.Spaces.{worked_face}

-- a face of u units in which glyph 1 is a base of this advance, with extents or none, glyph 2 an acute above, glyph 3 a
-- dot below
abbrev pub base_face : ℕ → ℤ → Option Extents → FaceMeaning
base_face u advance own = record (worked_face (λ c. false)) {
  h_advance = λ g. if g.0 == 1 then advance else pos 0;
  extents = λ g.
      if g.0 == 1 then own
      else if g.0 == 2 then Some (extents (pos 50) (pos 800) (pos 200) (negsuc 149))
      else if g.0 == 3 then Some (extents (pos 50) (negsuc 49) (pos 200) (negsuc 99))
      else None;
  units_per_em = u;
  x_scale = pos u;
  y_scale = pos u;
}

-- of 1000 units, the base from 700 down to 0
abbrev pub latin_face : ℤ → FaceMeaning
latin_face advance = base_face 1000 advance (Some (extents (pos 30) (pos 700) advance (negsuc 699)))

-- a letter of glyph 1 with n components
abbrev pub letter : ℕ → Item
letter n =
    let item = new_item 0x61 0 in
    record item {
      glyph_id = 1;
      properties = record item.properties { general_category = LowercaseLetter; ligature_id = 1; number_of_components = n };
    }

-- a mark of a glyph and a ccc, of a category, in a cluster
abbrev pub mark_of : ℕ → ℕ → hb_unicode_general_category_t → ℕ → Item
mark_of glyph ccc category cluster =
    let item = component_mark glyph ccc 0 0 in
    record item { cluster = cluster; properties = record item.properties { general_category = category } }

abbrev pub marked : Direction → List Item → List GlyphPosition → Buffer
marked direction items ps = record new_buffer { direction = direction; items = items; positions = ps }

-- positions under a plan of the buffer's direction
abbrev pub positions_after : FaceMeaning → Bool → Direction → List Item → List GlyphPosition → List GlyphPosition
positions_after face adjust direction items ps =
    (marks_positioned (worked_unicode None) face direction None adjust (marked direction items ps)).positions

pub record AboveAndBelow : Type 0 where
  pub above : positions_after (latin_face (pos 600)) true LeftToRight (letter 1 ∷ mark_of 2 230 NonspacingMark 0 ∷ [])
      (at (pos 600) (pos 0) (pos 0) (pos 0) ∷ at (pos 11) (pos 12) (pos 13) (pos 14) ∷ [])
      ≡ at (pos 600) (pos 0) (pos 0) (pos 0) ∷ at (pos 0) (pos 0) (negsuc 449) (pos 112) ∷ []
  pub below : positions_after (latin_face (pos 600)) true LeftToRight (letter 1 ∷ mark_of 3 220 NonspacingMark 0 ∷ [])
      (at (pos 600) (pos 0) (pos 0) (pos 0) ∷ at (pos 0) (pos 0) (pos 0) (pos 0) ∷ [])
      ≡ at (pos 600) (pos 0) (pos 0) (pos 0) ∷ at (pos 0) (pos 0) (negsuc 449) (negsuc 11) ∷ []
  pub two_acutes : positions_after (latin_face (pos 600)) true LeftToRight
      (letter 1 ∷ mark_of 2 230 NonspacingMark 0 ∷ mark_of 2 230 NonspacingMark 0 ∷ [])
      (at (pos 600) (pos 0) (pos 0) (pos 0) ∷ at (pos 0) (pos 0) (pos 0) (pos 0) ∷ at (pos 0) (pos 0) (pos 0) (pos 0) ∷ [])
      ≡ at (pos 600) (pos 0) (pos 0) (pos 0) ∷ at (pos 0) (pos 0) (negsuc 449) (pos 112) ∷ at (pos 0) (pos 0) (negsuc 449) (pos 324) ∷ []
  -- another ccc begins at the base's own extents
  pub above_then_below : positions_after (latin_face (pos 600)) true LeftToRight
      (letter 1 ∷ mark_of 2 230 NonspacingMark 0 ∷ mark_of 3 220 NonspacingMark 0 ∷ [])
      (at (pos 600) (pos 0) (pos 0) (pos 0) ∷ at (pos 0) (pos 0) (pos 0) (pos 0) ∷ at (pos 0) (pos 0) (pos 0) (pos 0) ∷ [])
      ≡ at (pos 600) (pos 0) (pos 0) (pos 0) ∷ at (pos 0) (pos 0) (negsuc 449) (pos 112) ∷ at (pos 0) (pos 0) (negsuc 449) (negsuc 11) ∷ []
  -- a base that is moved up takes its marks with it
  pub moved_base : positions_after (latin_face (pos 600)) true LeftToRight (letter 1 ∷ mark_of 2 230 NonspacingMark 0 ∷ [])
      (at (pos 600) (pos 0) (pos 9) (pos 100) ∷ at (pos 0) (pos 0) (pos 0) (pos 0) ∷ [])
      ≡ at (pos 600) (pos 0) (pos 9) (pos 100) ∷ at (pos 0) (pos 0) (negsuc 449) (pos 212) ∷ []
  -- below 16 units there is no gap, and a mark above comes half of the way down
  pub no_gap : positions_after (base_face 15 (pos 600) (Some (extents (pos 30) (pos 700) (pos 600) (negsuc 699)))) true LeftToRight
      (letter 1 ∷ mark_of 2 230 NonspacingMark 0 ∷ []) (at (pos 600) (pos 0) (pos 0) (pos 0) ∷ at (pos 0) (pos 0) (pos 0) (pos 0) ∷ [])
      ≡ at (pos 600) (pos 0) (pos 0) (pos 0) ∷ at (pos 0) (pos 0) (negsuc 449) (pos 25) ∷ []
  pub gap_of_one : positions_after (base_face 16 (pos 600) (Some (extents (pos 30) (pos 700) (pos 600) (negsuc 699)))) true LeftToRight
      (letter 1 ∷ mark_of 2 230 NonspacingMark 0 ∷ []) (at (pos 600) (pos 0) (pos 0) (pos 0) ∷ at (pos 0) (pos 0) (pos 0) (pos 0) ∷ [])
      ≡ at (pos 600) (pos 0) (pos 0) (pos 0) ∷ at (pos 0) (pos 0) (negsuc 449) (pos 51) ∷ []
  pub right_to_left : positions_after (latin_face (pos 600)) true RightToLeft (letter 1 ∷ mark_of 2 230 NonspacingMark 0 ∷ [])
      (at (pos 600) (pos 0) (pos 0) (pos 0) ∷ at (pos 11) (pos 0) (pos 0) (pos 0) ∷ [])
      ≡ at (pos 600) (pos 0) (pos 0) (pos 0) ∷ at (pos 0) (pos 0) (pos 150) (pos 112) ∷ []
  -- the base is moved 1000 down, so its mark would come down by 888, and comes half of the way
  pub downwards : positions_after (latin_face (pos 600)) true TopToBottom (letter 1 ∷ mark_of 2 230 NonspacingMark 0 ∷ [])
      (at (pos 0) (negsuc 999) (negsuc 299) (negsuc 999) ∷ at (pos 0) (negsuc 999) (pos 0) (pos 0) ∷ [])
      ≡ at (pos 0) (negsuc 999) (negsuc 299) (negsuc 999) ∷ at (pos 0) (pos 0) (pos 150) (pos 556) ∷ []

above_and_below : AboveAndBelow
unfolding marks_positioned frame_of runs_to_right bases_positioned bases base_at position_span around_base base_of first_state
    marks_placed place_mark place_in at_ccc with_component moved mark_placed is_double is_left is_right is_below is_above is_attached
    agree lowered raised ◌+ʷ◌ ◌-ʷ◌ neg_w int_wrap
above_and_below =
    record {
      above = refl;
      below = refl;
      two_acutes = refl;
      above_then_below = refl;
      moved_base = refl;
      no_gap = refl;
      gap_of_one = refl;
      right_to_left = refl;
      downwards = refl;
    }

-- offsets of one mark of ccc 230 on a ligature of three components of advance 900
abbrev pub on_ligature : Direction → ℕ → List GlyphPosition
on_ligature direction component =
    positions_after (latin_face (pos 900)) true direction (letter 3 ∷ component_mark 2 230 1 component ∷ [])
    (at (pos 900) (pos 0) (pos 0) (pos 0) ∷ at (pos 0) (pos 0) (pos 0) (pos 0) ∷ [])

pub record OnLigatures : Type 0 where
  pub second : on_ligature LeftToRight 2 ≡ at (pos 900) (pos 0) (pos 0) (pos 0) ∷ at (pos 0) (pos 0) (negsuc 599) (pos 112) ∷ []
  pub first : on_ligature LeftToRight 1 ≡ at (pos 900) (pos 0) (pos 0) (pos 0) ∷ at (pos 0) (pos 0) (negsuc 899) (pos 112) ∷ []
  pub none : on_ligature LeftToRight 0 ≡ at (pos 900) (pos 0) (pos 0) (pos 0) ∷ at (pos 0) (pos 0) (negsuc 599) (pos 112) ∷ []
  pub first_from_the_right : on_ligature RightToLeft 1 ≡ at (pos 900) (pos 0) (pos 0) (pos 0) ∷ at (pos 0) (pos 0) (pos 600) (pos 112) ∷ []
  -- the components of vertical text run as its script does
  pub downwards : (marks_positioned (worked_unicode (Some RightToLeft)) (latin_face (pos 900)) TopToBottom some_script true
      (marked TopToBottom (letter 3 ∷ component_mark 2 230 1 1 ∷ [])
      (at (pos 0) (pos 0) (pos 0) (pos 0) ∷ at (pos 0) (pos 0) (pos 0) (pos 0) ∷ []))).positions
      ≡ at (pos 0) (pos 0) (pos 0) (pos 0) ∷ at (pos 0) (pos 0) (pos 600) (pos 112) ∷ []
  -- at another component the same ccc begins anew
  pub two_components : positions_after (latin_face (pos 900)) true LeftToRight
      (letter 3 ∷ component_mark 2 230 1 1 ∷ component_mark 2 230 1 2 ∷ component_mark 2 230 1 2 ∷ [])
      (at (pos 900) (pos 0) (pos 0) (pos 0) ∷ at (pos 0) (pos 0) (pos 0) (pos 0) ∷ at (pos 0) (pos 0) (pos 0) (pos 0)
      ∷ at (pos 0) (pos 0) (pos 0) (pos 0) ∷ [])
      ≡ at (pos 900) (pos 0) (pos 0) (pos 0) ∷ at (pos 0) (pos 0) (negsuc 899) (pos 112) ∷ at (pos 0) (pos 0) (negsuc 599) (pos 112)
      ∷ at (pos 0) (pos 0) (negsuc 599) (pos 324) ∷ []

on_ligatures : OnLigatures
unfolding marks_positioned frame_of runs_to_right bases_positioned bases base_at position_span around_base base_of first_state
    marks_placed place_mark place_in at_ccc with_component at_component component_of place_of component_extents moved
    mark_placed is_double is_left is_right is_below is_above is_attached agree lowered raised ◌+ʷ◌ ◌-ʷ◌ ◌*ʷ◌ neg_w int_wrap
on_ligatures = record { second = refl; first = refl; none = refl; first_from_the_right = refl; downwards = refl; two_components = refl }

pub record MarksOfCcc0 : Type 0 where
  -- its advance goes into the running offset of the marks after it
  pub forward : positions_after (latin_face (pos 600)) true LeftToRight
      (letter 1 ∷ mark_of 2 0 NonspacingMark 0 ∷ mark_of 2 230 NonspacingMark 0 ∷ [])
      (at (pos 600) (pos 0) (pos 0) (pos 0) ∷ at (pos 40) (pos 3) (pos 1) (pos 2) ∷ at (pos 0) (pos 0) (pos 0) (pos 0) ∷ [])
      ≡ at (pos 600) (pos 0) (pos 0) (pos 0) ∷ at (pos 40) (pos 3) (pos 1) (pos 2) ∷ at (pos 0) (pos 0) (negsuc 489) (pos 109) ∷ []
  pub backward : positions_after (latin_face (pos 600)) true RightToLeft
      (letter 1 ∷ mark_of 2 0 NonspacingMark 0 ∷ mark_of 2 230 NonspacingMark 0 ∷ [])
      (at (pos 600) (pos 0) (pos 0) (pos 0) ∷ at (pos 40) (pos 3) (pos 1) (pos 2) ∷ at (pos 0) (pos 0) (pos 0) (pos 0) ∷ [])
      ≡ at (pos 600) (pos 0) (pos 0) (pos 0) ∷ at (pos 40) (pos 3) (pos 1) (pos 2) ∷ at (pos 0) (pos 0) (pos 190) (pos 115) ∷ []
  -- a mark without extents keeps its offsets and loses its advances
  pub without_extents : positions_after (latin_face (pos 600)) true LeftToRight (letter 1 ∷ mark_of 9 230 NonspacingMark 0 ∷ [])
      (at (pos 600) (pos 0) (pos 0) (pos 0) ∷ at (pos 40) (pos 3) (pos 1) (pos 2) ∷ [])
      ≡ at (pos 600) (pos 0) (pos 0) (pos 0) ∷ at (pos 0) (pos 0) (negsuc 598) (pos 2) ∷ []

marks_of_ccc_0 : MarksOfCcc0
unfolding marks_positioned frame_of runs_to_right bases_positioned bases base_at position_span around_base base_of first_state
    marks_placed place_mark place_in at_ccc with_component moved_past moved mark_placed is_double is_left is_right is_below is_above
    is_attached agree lowered raised ◌+ʷ◌ ◌-ʷ◌ neg_w int_wrap
marks_of_ccc_0 = record { forward = refl; backward = refl; without_extents = refl }

pub record BasesWithoutExtents : Type 0 where
  pub adjusted : positions_after (base_face 1000 (pos 600) None) true LeftToRight
      (letter 1 ∷ mark_of 2 230 NonspacingMark 0 ∷ mark_of 2 0 SpacingMark 0 ∷ [])
      (at (pos 600) (pos 0) (pos 0) (pos 0) ∷ at (pos 100) (pos 3) (pos 0) (pos 0) ∷ at (pos 50) (pos 4) (pos 1) (pos 2) ∷ [])
      ≡ at (pos 600) (pos 0) (pos 0) (pos 0) ∷ at (pos 0) (pos 0) (negsuc 99) (negsuc 2) ∷ at (pos 50) (pos 4) (pos 1) (pos 2) ∷ []
  pub not_adjusted : positions_after (base_face 1000 (pos 600) None) false LeftToRight (letter 1 ∷ mark_of 2 230 NonspacingMark 0 ∷ [])
      (at (pos 600) (pos 0) (pos 0) (pos 0) ∷ at (pos 100) (pos 3) (pos 5) (pos 6) ∷ [])
      ≡ at (pos 600) (pos 0) (pos 0) (pos 0) ∷ at (pos 0) (pos 0) (pos 5) (pos 6) ∷ []
  pub least_advance : positions_after (base_face 1000 (pos 600) None) true LeftToRight (letter 1 ∷ mark_of 2 230 NonspacingMark 0 ∷ [])
      (at (pos 600) (pos 0) (pos 0) (pos 0) ∷ at (negsuc 2147483647) (pos 0) (pos 0) (pos 0) ∷ [])
      ≡ at (pos 600) (pos 0) (pos 0) (pos 0) ∷ at (pos 0) (pos 0) (negsuc 2147483647) (pos 0) ∷ []

bases_without_extents : BasesWithoutExtents
unfolding marks_positioned frame_of runs_to_right bases_positioned bases base_at position_span around_base zeroed is_nonspacing
    zeroed_position ◌-ʷ◌ int_wrap
bases_without_extents = record { adjusted = refl; not_adjusted = refl; least_advance = refl }

-- a face whose base and mark are as wide as numbers go
abbrev pub wide_face : FaceMeaning
wide_face = record (worked_face (λ c. false)) {
  h_advance = λ g. if g.0 == 1 then pos 2147483647 else pos 0;
  extents = λ g.
      if g.0 == 1 then Some (extents (pos 0) (pos 0) (pos 0) (pos 0))
      else Some (extents (pos 0) (pos 0) (negsuc 2147483647) (pos 0));
}

pub record WidestMark : Type 0 where
  pub widest : positions_after wide_face true LeftToRight (letter 1 ∷ mark_of 2 230 NonspacingMark 0 ∷ [])
      (at (pos 2147483647) (pos 0) (pos 0) (pos 0) ∷ at (pos 0) (pos 0) (pos 0) (pos 0) ∷ [])
      ≡ at (pos 2147483647) (pos 0) (pos 0) (pos 0) ∷ at (pos 0) (pos 0) (negsuc 2147483646) (pos 62) ∷ []

widest_mark : WidestMark
unfolding marks_positioned frame_of runs_to_right bases_positioned bases base_at position_span around_base base_of first_state
    marks_placed place_mark place_in at_ccc with_component moved mark_placed is_double is_left is_right is_below is_above is_attached
    agree lowered raised ◌+ʷ◌ ◌-ʷ◌ neg_w int_wrap
widest_mark = record { widest = refl }

-- the decisions of a plan that places marks by their extents or doesn't, and adjusts offsets or doesn't
abbrev pub worked_decisions : Bool → Bool → Decisions
worked_decisions fallback adjust = record no_decisions {
  apply_fallback_kern = true;
  fallback_mark_positioning = fallback;
  adjust_mark_positioning_when_zeroing = adjust;
}

-- a base without extents, and an acute of advance 100
abbrev pub bare_base : Direction → Buffer
bare_base direction =
    marked direction (letter 1 ∷ mark_of 2 230 NonspacingMark 0 ∷ [])
    (at (pos 600) (pos 0) (pos 0) (pos 0) ∷ at (pos 100) (pos 0) (pos 0) (pos 0) ∷ [])

abbrev pub after_step : Direction → Bool → Bool → List GlyphPosition
after_step direction fallback adjust =
    (marks_step (worked_unicode None) (base_face 1000 (pos 600) None) LeftToRight None (worked_decisions fallback adjust)
    (bare_base direction)).positions

pub record DueSteps : Type 0 where
  pub to_the_right : after_step LeftToRight true true ≡ at (pos 600) (pos 0) (pos 0) (pos 0) ∷ at (pos 0) (pos 0) (negsuc 99) (pos 0) ∷ []
  -- asked of the buffer, whatever the plan's direction is
  pub to_the_left : after_step RightToLeft true true ≡ at (pos 600) (pos 0) (pos 0) (pos 0) ∷ at (pos 0) (pos 0) (pos 0) (pos 0) ∷ []
  pub not_adjusted : after_step LeftToRight true false ≡ at (pos 600) (pos 0) (pos 0) (pos 0) ∷ at (pos 0) (pos 0) (pos 0) (pos 0) ∷ []
  pub not_due : marks_step (worked_unicode None) (base_face 1000 (pos 600) None) LeftToRight None (worked_decisions false true)
      (bare_base LeftToRight) ≡ bare_base LeftToRight
  pub cccs_due : (recategorize_step (worked_decisions true true)
      (record new_buffer { items = worked_mark 0xE34 NonspacingMark 0 ∷ worked_mark 0xE34 SpacingMark 0 ∷ [] })).items
      ≡ worked_mark 0xE34 NonspacingMark 232 ∷ worked_mark 0xE34 SpacingMark 0 ∷ []
  pub cccs_not_due : (recategorize_step (worked_decisions false true)
      (record new_buffer { items = worked_mark 0xE34 NonspacingMark 0 ∷ [] })).items ≡ worked_mark 0xE34 NonspacingMark 0 ∷ []

due_steps : DueSteps
unfolding marks_adjusted marks_positioned frame_of runs_to_right bases_positioned bases base_at position_span around_base zeroed
    is_nonspacing zeroed_position recategorized_item items_mapped ◌-ʷ◌ int_wrap
due_steps = record { to_the_right = refl; to_the_left = refl; not_adjusted = refl; not_due = refl; cccs_due = refl; cccs_not_due = refl }

-- what is marked: a mark of a later cluster than its base's, with the scratch flag set; no item outside the spans
pub record MarkedSpans : Type 0 where
  pub masks : map (λ item. item.mask) (bases_marked (marked LeftToRight
      (mark_of 2 230 NonspacingMark 0 ∷ letter 1 ∷ mark_of 2 230 NonspacingMark 1 ∷ mark_of 2 230 NonspacingMark 0
      ∷ mark_of 9 0 LowercaseLetter 2 ∷ []) [])).items
      ≡ 0 ∷ 0 ∷ 3 ∷ 0 ∷ 0 ∷ []
  pub bit : (bases_marked (marked LeftToRight (letter 1 ∷ mark_of 2 230 NonspacingMark 0 ∷ []) [])).scratch_flags.0 ≡ 32
  pub no_base : bases_marked (marked LeftToRight (mark_of 2 230 NonspacingMark 0 ∷ mark_of 2 230 NonspacingMark 1 ∷ letter 1 ∷ []) [])
      ≡ marked LeftToRight (mark_of 2 230 NonspacingMark 0 ∷ mark_of 2 230 NonspacingMark 1 ∷ letter 1 ∷ []) []
  pub placed_too : map (λ item. item.mask) (marks_positioned (worked_unicode None) (base_face 1000 (pos 600) None) LeftToRight None true
      (marked LeftToRight (letter 1 ∷ mark_of 2 230 NonspacingMark 1 ∷ [])
      (at (pos 600) (pos 0) (pos 0) (pos 0) ∷ at (pos 100) (pos 0) (pos 0) (pos 0) ∷ []))).items ≡ 0 ∷ 3 ∷ []

marked_spans : MarkedSpans
unfolding marks_positioned frame_of runs_to_right bases_positioned bases_marked bases base_at position_span
marked_spans = record { masks = refl; bit = refl; no_base = refl; placed_too = refl }

pub record WorkedBuffers : Type 0 where
  pub latin : AboveAndBelow
  pub ligatures : OnLigatures
  pub ccc_0 : MarksOfCcc0
  pub bare_bases : BasesWithoutExtents
  pub widest : WidestMark
  pub steps : DueSteps
  pub spans : MarkedSpans

pub worked_buffers : WorkedBuffers
worked_buffers =
    record {
      latin = above_and_below;
      ligatures = on_ligatures;
      ccc_0 = marks_of_ccc_0;
      bare_bases = bases_without_extents;
      widest = widest_mark;
      steps = due_steps;
      spans = marked_spans;
    }
