-- What depends on the buffer and on nothing else: marks without a ccc in backward text, the line that marks stand
-- along, and the flag of spaces.
use Rattle.std.specs.Prelude.{◌≡◌, ℕ, pos, negsuc, true, false, [], ◌∷◌, None, refl}
use Rattle.std.specs.Int.{int_wrap}
use Rattle.shape_items.specs.Buffer.{Buffer, new_buffer}
use Rattle.shape_common.specs.Face.{FaceMeaning}
use Rattle.shape_items.specs.Items.{new_item}
use Rattle.shape_buffer.specs.PositionWalks.{positions_mapped}
use Rattle.shape_common.specs.Positions.{zero_position}
use Rattle.shape_common.specs.Unicode.{UnicodeMeaning}
use Rattle.shape_common.specs.Wrapping.{◌+ʷ◌, ◌-ʷ◌}
use Rattle.shape_common.specs.declared.general_category.hb_unicode_general_category_t.TheVariants.{SpaceSeparator}
use Rattle.shape_common.specs.declared.text_types.Direction.{Direction}
use Rattle.shape_common.specs.declared.text_types.Direction.TheVariants.{LeftToRight, RightToLeft, TopToBottom, BottomToTop}
use Rattle.shape_fallback.specs.Bases.{frame_of}
use Rattle.shape_fallback.specs.MarkState.{place_mark, moved_past}
use Rattle.shape_fallback.specs.Spaces.{spaces_placed, item_spaced, is_lone_space, space_positioned, space_advance, is_em_fraction, em_fraction, em_advance}
use Rattle.shape_fallback.specs.DueSteps.{spaces_step}
use Rattle.shape_fallback.specs.Worked.Marks.{worked_base, component_mark, at, running}
use Rattle.shape_fallback.specs.declared.ot_shape_fallback.mark_state.Base.{Base}
use Rattle.shape_fallback.specs.declared.ot_shape_fallback.one_mark.Surroundings.{Surroundings}

abbrev pub backward_base : Base
backward_base = record (worked_base true 0 1 (pos 900)) { surroundings = record { horizontal = true; forward = false; gap = pos 62 } }

-- a mark without a ccc stays where it is, whatever the running offset
pub record MarksWithoutCcc : Type 0 where
  pub forward : (face : FaceMeaning)
      → place_mark face (worked_base true 0 1 (pos 900)) (running (negsuc 899) (pos 4)) (component_mark 2 0 0 0)
      (at (pos 20) (pos 3) (pos 1) (pos 2))
      ≡ record { position = at (pos 20) (pos 3) (pos 1) (pos 2); state = running (negsuc 919) (pos 1) }
  pub backward : (face : FaceMeaning)
      → place_mark face backward_base (running (pos 30) (pos 4)) (component_mark 2 0 0 0) (at (pos 20) (pos 3) (pos 1) (pos 2))
      ≡ record { position = at (pos 20) (pos 3) (pos 1) (pos 2); state = running (pos 50) (pos 7) }

marks_without_ccc : MarksWithoutCcc
unfolding place_mark moved_past ◌+ʷ◌ ◌-ʷ◌ int_wrap
marks_without_ccc = record { forward = λ face. refl; backward = λ face. refl }

-- what marks stand along in a buffer of a direction, under a plan of another one
abbrev pub along : UnicodeMeaning → FaceMeaning → Direction → Direction → ℕ → Surroundings
along unicode face plan buffer units =
    (frame_of unicode (record face { y_scale = pos units }) plan None false (record new_buffer { direction = buffer })).surroundings

pub record LinesOfMarks : Type 0 where
  pub rightward : (unicode : UnicodeMeaning) (face : FaceMeaning)
      → along unicode face TopToBottom LeftToRight 1000 ≡ record { horizontal = true; forward = true; gap = pos 62 }
  pub leftward : (unicode : UnicodeMeaning) (face : FaceMeaning)
      → along unicode face LeftToRight RightToLeft 1000 ≡ record { horizontal = true; forward = false; gap = pos 62 }
  pub downward : (unicode : UnicodeMeaning) (face : FaceMeaning)
      → along unicode face RightToLeft TopToBottom 65535 ≡ record { horizontal = false; forward = true; gap = pos 4095 }
  pub upward : (unicode : UnicodeMeaning) (face : FaceMeaning)
      → along unicode face LeftToRight BottomToTop 15 ≡ record { horizontal = false; forward = false; gap = pos 0 }

lines_of_marks : LinesOfMarks
unfolding frame_of
lines_of_marks =
    record {
      rightward = λ unicode face. refl;
      leftward = λ unicode face. refl;
      downward = λ unicode face. refl;
      upward = λ unicode face. refl;
    }

-- a space as wide as the em square of 1000 units, with these scratch flags
abbrev pub em_space : ℕ → Buffer
em_space flags =
    let item = new_item 0x2003 0 in
    record new_buffer {
      items = record item { properties = record item.properties { general_category = SpaceSeparator; space_type = 1 } } ∷ [];
      positions = zero_position ∷ [];
      direction = LeftToRight;
      scratch_flags = record { 0 = flags };
    }

pub record FlagOfSpaces : Type 0 where
  pub seen : (face : FaceMeaning)
      → (spaces_step (record face { x_scale = pos 1000 }) (em_space 4)).positions ≡ at (pos 1000) (pos 0) (pos 0) (pos 0) ∷ []
  pub unseen : (face : FaceMeaning) → (spaces_step (record face { x_scale = pos 1000 }) (em_space 59)).positions ≡ zero_position ∷ []

flag_of_spaces : FlagOfSpaces
unfolding spaces_step spaces_placed positions_mapped item_spaced is_lone_space space_positioned space_advance is_em_fraction em_fraction em_advance
    ◌+ʷ◌ int_wrap
flag_of_spaces = record { seen = λ face. refl; unseen = λ face. refl }

pub record WorkedDirections : Type 0 where
  pub marks : MarksWithoutCcc
  pub lines : LinesOfMarks
  pub spaces : FlagOfSpaces

pub worked_directions : WorkedDirections
worked_directions = record { marks = marks_without_ccc; lines = lines_of_marks; spaces = flag_of_spaces }
