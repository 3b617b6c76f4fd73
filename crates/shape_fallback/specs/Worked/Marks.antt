-- Marks round their bases, worked out by hand.
use Rattle.std.specs.Prelude.{◌≡◌, ℕ, ℤ, pos, negsuc, Bool, true, false, [], ◌∷◌, map, Option, Some, None, refl}
use Rattle.std.specs.Int.{int_wrap}
use Rattle.shape_items.specs.Buffer.{new_buffer}
use Rattle.shape_items.specs.Items.{Item, new_item}
use Rattle.shape_common.specs.Positions.{zero_position}
use Rattle.shape_common.specs.Unicode.{UnicodeMeaning}
use Rattle.shape_common.specs.Wrapping.{◌+ʷ◌, ◌-ʷ◌, ◌*ʷ◌, neg_w}
use Rattle.shape_common.specs.declared.general_category.hb_unicode_general_category_t.TheVariants.{LowercaseLetter, OtherLetter, NonspacingMark}
use Rattle.shape_common.specs.declared.general_category.hb_unicode_general_category_t.TheVariants.{SpacingMark, EnclosingMark, Format}
use Rattle.shape_common.specs.declared.positions.GlyphPosition.{GlyphPosition}
use Rattle.shape_common.specs.declared.text_types.Direction.{Direction}
use Rattle.shape_common.specs.declared.text_types.Direction.TheVariants.{Invalid, LeftToRight, RightToLeft, TopToBottom, BottomToTop}
use Rattle.shape_common.specs.declared.text_types.Script.{Script}
use Rattle.shape_common.specs.PlainUnicode.{plain_unicode}
use Rattle.shape_fallback.specs.Bases.{base_at, bases, marks_of, runs_to_right}
use Rattle.shape_fallback.specs.Extents.{Extents}
use Rattle.shape_fallback.specs.MarkState.{component_of, place_of, component_extents, at_component, with_component, at_ccc, moved_past, moved}
use Rattle.shape_fallback.specs.Marks.{zeroed_position, first_state}
use Rattle.shape_fallback.specs.Worked.Ccc.{worked_mark}
use Rattle.shape_fallback.specs.Worked.OneMark.{extents}
use Rattle.shape_fallback.specs.declared.ot_shape_fallback.mark_state.Base.{Base}
use Rattle.shape_fallback.specs.declared.ot_shape_fallback.mark_state.MarkState.{MarkState}

-- ---- components

-- a base with an id and n components, of this width
abbrev pub worked_base : Bool → ℕ → ℕ → ℤ → Base
worked_base left_to_right id n width = record {
  surroundings = record { horizontal = true; forward = true; gap = pos 62 };
  left_to_right = left_to_right;
  ligature_id = id;
  number_of_components = n;
  extents = extents (pos 0) (pos 700) width (negsuc 699);
}

-- a mark of a glyph and a ccc, of a component of the ligature with an id
abbrev pub component_mark : ℕ → ℕ → ℕ → ℕ → Item
component_mark glyph ccc id component =
    let item = new_item 0x301 0 in
    record item {
      glyph_id = glyph;
      properties = record item.properties {
        general_category = NonspacingMark;
        modified_ccc = ccc;
        ligature_id = id;
        ligature_component = component;
      };
    }

pub record Components : Type 0 where
  pub of_three : map (λ component. component_of (worked_base true 1 3 (pos 900)) (component_mark 2 230 1 component))
      (0 ∷ 1 ∷ 2 ∷ 3 ∷ 4 ∷ 255 ∷ []) ≡ negsuc 0 ∷ pos 0 ∷ pos 1 ∷ pos 2 ∷ pos 2 ∷ pos 2 ∷ []
  pub of_another : component_of (worked_base true 1 3 (pos 900)) (component_mark 2 230 2 1) ≡ pos 2
  pub of_no_id : component_of (worked_base true 0 3 (pos 900)) (component_mark 2 230 0 1) ≡ pos 2
  pub places : map (place_of (worked_base true 1 3 (pos 900))) (negsuc 0 ∷ pos 0 ∷ pos 2 ∷ []) ≡ negsuc 0 ∷ pos 0 ∷ pos 2 ∷ []
  pub places_from_the_right : map (place_of (worked_base false 1 3 (pos 900))) (negsuc 0 ∷ pos 0 ∷ pos 2 ∷ []) ≡ pos 3 ∷ pos 2 ∷ pos 0 ∷ []
  pub thirds : map (component_extents (worked_base true 1 3 (pos 1000))) (pos 0 ∷ pos 1 ∷ pos 2 ∷ [])
      ≡ extents (pos 0) (pos 700) (pos 333) (negsuc 699) ∷ extents (pos 333) (pos 700) (pos 333) (negsuc 699)
      ∷ extents (pos 666) (pos 700) (pos 333) (negsuc 699) ∷ []
  pub thirds_from_the_right : component_extents (worked_base false 1 3 (pos 1000)) (pos 0)
      ≡ extents (pos 666) (pos 700) (pos 333) (negsuc 699)
  pub reversed : component_extents (worked_base true 1 3 (negsuc 999)) (pos 1) ≡ extents (negsuc 332) (pos 700) (negsuc 332) (negsuc 699)
  pub widest : component_extents (worked_base true 1 3 (pos 2147483647)) (pos 2) ≡ extents (pos 0) (pos 700) (pos 715827882) (negsuc 699)

components : Components
unfolding component_of place_of component_extents ◌+ʷ◌ ◌-ʷ◌ ◌*ʷ◌ int_wrap
components =
    record {
      of_three = refl;
      of_another = refl;
      of_no_id = refl;
      places = refl;
      places_from_the_right = refl;
      thirds = refl;
      thirds_from_the_right = refl;
      reversed = refl;
      widest = refl;
    }

-- ---- the state from mark to mark

-- a state after a mark of a component and a ccc
abbrev pub worked_state : ℤ → ℕ → Extents → Extents → MarkState
worked_state component ccc whole left =
    record { component = component; component_extents = whole; ccc = ccc; extents = left; x_offset = negsuc 599; y_offset = pos 0 }

pub record States : Type 0 where
  pub another_component : at_component (worked_base true 1 3 (pos 900)) (component_mark 2 230 1 2)
      (worked_state (pos 0) 230 (extents (pos 0) (pos 700) (pos 300) (negsuc 699)) (extents (pos 0) (pos 912) (pos 300) (negsuc 911)))
      ≡ worked_state (pos 1) 255 (extents (pos 300) (pos 700) (pos 300) (negsuc 699)) (extents (pos 0) (pos 912) (pos 300) (negsuc 911))
  pub same_component : at_component (worked_base true 1 3 (pos 900)) (component_mark 2 230 1 1)
      (worked_state (pos 0) 230 (extents (pos 0) (pos 700) (pos 300) (negsuc 699)) (extents (pos 0) (pos 912) (pos 300) (negsuc 911)))
      ≡ worked_state (pos 0) 230 (extents (pos 0) (pos 700) (pos 300) (negsuc 699)) (extents (pos 0) (pos 912) (pos 300) (negsuc 911))
  pub one_component : with_component (worked_base true 1 1 (pos 900)) (component_mark 2 230 1 1)
      (worked_state (negsuc 0) 230 (extents (pos 0) (pos 700) (pos 900) (negsuc 699)) (extents (pos 0) (pos 912) (pos 900) (negsuc 911)))
      ≡ worked_state (negsuc 0) 230 (extents (pos 0) (pos 700) (pos 900) (negsuc 699)) (extents (pos 0) (pos 912) (pos 900) (negsuc 911))
  pub two_components : with_component (worked_base true 1 2 (pos 900)) (component_mark 2 230 1 2)
      (worked_state (negsuc 0) 230 (extents (pos 0) (pos 700) (pos 900) (negsuc 699)) (extents (pos 0) (pos 912) (pos 900) (negsuc 911)))
      ≡ worked_state (pos 1) 255 (extents (pos 450) (pos 700) (pos 450) (negsuc 699)) (extents (pos 0) (pos 912) (pos 900) (negsuc 911))
  pub another_ccc : at_ccc 220 (worked_state (pos 0) 230 (extents (pos 0) (pos 700) (pos 300) (negsuc 699))
      (extents (pos 0) (pos 912) (pos 300) (negsuc 911)))
      ≡ worked_state (pos 0) 220 (extents (pos 0) (pos 700) (pos 300) (negsuc 699)) (extents (pos 0) (pos 700) (pos 300) (negsuc 699))
  pub same_ccc : at_ccc 230 (worked_state (pos 0) 230 (extents (pos 0) (pos 700) (pos 300) (negsuc 699))
      (extents (pos 0) (pos 912) (pos 300) (negsuc 911)))
      ≡ worked_state (pos 0) 230 (extents (pos 0) (pos 700) (pos 300) (negsuc 699)) (extents (pos 0) (pos 912) (pos 300) (negsuc 911))

states : States
unfolding at_component with_component at_ccc component_of place_of component_extents ◌+ʷ◌ ◌-ʷ◌ ◌*ʷ◌ int_wrap
states =
    record {
      another_component = refl;
      same_component = refl;
      one_component = refl;
      two_components = refl;
      another_ccc = refl;
      same_ccc = refl;
    }

-- x_advance, y_advance, x_offset, y_offset
abbrev pub at : ℤ → ℤ → ℤ → ℤ → GlyphPosition
at x y right up = record zero_position { x_advance = x; y_advance = y; x_offset = right; y_offset = up }

-- a running offset
abbrev pub running : ℤ → ℤ → MarkState
running x y =
    record (worked_state (negsuc 0) 255 (extents (pos 0) (pos 0) (pos 0) (pos 0))
    (extents (pos 0) (pos 0) (pos 0) (pos 0))) { x_offset = x; y_offset = y }

pub record RunningOffsets : Type 0 where
  pub past_forward : moved_past true (at (pos 30) (pos 4) (pos 1) (pos 2)) (running (negsuc 599) (pos 0)) ≡ running (negsuc 629) (negsuc 3)
  pub past_backward : moved_past false (at (pos 30) (pos 4) (pos 1) (pos 2)) (running (pos 0) (pos 0)) ≡ running (pos 30) (pos 4)
  pub added : moved (at (pos 30) (pos 4) (pos 150) (pos 112)) (running (negsuc 599) (pos 5)) ≡ at (pos 0) (pos 0) (negsuc 449) (pos 117)
  pub first_forward : first_state (worked_base true 1 3 (pos 900)) (at (pos 600) (negsuc 6) (pos 1) (pos 2))
      ≡ record (worked_state (negsuc 0) 255 (extents (pos 0) (pos 700) (pos 900) (negsuc 699))
      (extents (pos 0) (pos 700) (pos 900) (negsuc 699))) { x_offset = negsuc 599; y_offset = pos 7 }
  pub first_backward : first_state (record (worked_base true 1 3
      (pos 900)) { surroundings = record { horizontal = true; forward = false; gap = pos 62 } }) (at (pos 600) (negsuc 6) (pos 1) (pos 2))
      ≡ record (worked_state (negsuc 0) 255 (extents (pos 0) (pos 700) (pos 900) (negsuc 699))
      (extents (pos 0) (pos 700) (pos 900) (negsuc 699))) { x_offset = pos 0; y_offset = pos 0 }
  pub adjusted : zeroed_position true (at (pos 30) (pos 4) (pos 1) (pos 2)) ≡ at (pos 0) (pos 0) (negsuc 28) (negsuc 1)
  pub not_adjusted : zeroed_position false (at (pos 30) (pos 4) (pos 1) (pos 2)) ≡ at (pos 0) (pos 0) (pos 1) (pos 2)
  pub least_advance : zeroed_position true (at (negsuc 2147483647) (pos 0) (pos 0) (pos 0))
      ≡ at (pos 0) (pos 0) (negsuc 2147483647) (pos 0)

running_offsets : RunningOffsets
unfolding moved_past moved first_state zeroed_position ◌+ʷ◌ ◌-ʷ◌ neg_w int_wrap
running_offsets =
    record {
      past_forward = refl;
      past_backward = refl;
      added = refl;
      first_forward = refl;
      first_backward = refl;
      adjusted = refl;
      not_adjusted = refl;
      least_advance = refl;
    }

-- ---- which items are bases

pub record WorkedBases : Type 0 where
  pub one : bases 0 (false ∷ true ∷ []) ≡ record { start = 0; end = 2 } ∷ []
  pub bare : bases 0 (false ∷ false ∷ []) ≡ []
  pub marks_first : bases 0 (true ∷ true ∷ false ∷ true ∷ true ∷ []) ≡ record { start = 2; end = 5 } ∷ []
  pub two : bases 0 (false ∷ true ∷ false ∷ false ∷ true ∷ true ∷ false ∷ [])
      ≡ record { start = 0; end = 2 } ∷ record { start = 3; end = 6 } ∷ []
  pub no_item : bases 0 [] ≡ []
  -- marks are the nonspacing, the spacing and the enclosing ones
  pub marks : marks_of (record new_buffer {
    items = worked_mark 0x915 OtherLetter 0 ∷ worked_mark 0x93E SpacingMark 0 ∷ worked_mark 0x901 NonspacingMark 0
        ∷ worked_mark 0x20DD EnclosingMark 0 ∷ worked_mark 0x200D Format 0 ∷ [];
  }) ≡ false ∷ true ∷ true ∷ true ∷ false ∷ []

worked_bases : WorkedBases
unfolding bases base_at
worked_bases = record { one = refl; bare = refl; marks_first = refl; two = refl; no_item = refl; marks = refl }

-- ---- directions and gaps

-- Unicode of which only the directions of scripts are known
abbrev pub worked_unicode : Option Direction → UnicodeMeaning
worked_unicode direction = record plain_unicode {
  category = λ c. LowercaseLetter;
  script = λ c. record { 0 = record { 0 = 0 } };
  script_direction = λ s. direction;
}

abbrev pub some_script : Option Script
some_script = Some (record { 0 = record { 0 = 1098015074 } })

pub record DirectionsOfComponents : Type 0 where
  pub left_to_right : runs_to_right (worked_unicode (Some RightToLeft)) LeftToRight some_script ≡ true
  pub right_to_left : runs_to_right (worked_unicode (Some LeftToRight)) RightToLeft some_script ≡ false
  pub by_script : map (λ direction. runs_to_right (worked_unicode (Some direction)) TopToBottom some_script)
      (Invalid ∷ LeftToRight ∷ RightToLeft ∷ TopToBottom ∷ BottomToTop ∷ []) ≡ true ∷ true ∷ false ∷ false ∷ false ∷ []
  pub up_by_script : runs_to_right (worked_unicode (Some RightToLeft)) BottomToTop some_script ≡ false
  pub invalid_by_script : runs_to_right (worked_unicode (Some RightToLeft)) Invalid some_script ≡ false
  pub unknown_script : runs_to_right (worked_unicode None) TopToBottom some_script ≡ true
  pub no_script : runs_to_right (worked_unicode (Some RightToLeft)) TopToBottom None ≡ true

directions_of_components : DirectionsOfComponents
unfolding runs_to_right
directions_of_components =
    record {
      left_to_right = refl;
      right_to_left = refl;
      by_script = refl;
      up_by_script = refl;
      invalid_by_script = refl;
      unknown_script = refl;
      no_script = refl;
    }

pub record WorkedMarks : Type 0 where
  pub of_ligatures : Components
  pub from_mark_to_mark : States
  pub offsets : RunningOffsets
  pub spans : WorkedBases
  pub directions : DirectionsOfComponents

pub worked_marks : WorkedMarks
worked_marks =
    record {
      of_ligatures = components;
      from_mark_to_mark = states;
      offsets = running_offsets;
      spans = worked_bases;
      directions = directions_of_components;
    }
