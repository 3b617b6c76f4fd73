-- Fallback spaces, worked out by hand.
use Rattle.std.specs.Prelude.{◌≡◌, ℕ, ℤ, pos, negsuc, Bool, true, false, ◌==◌, if◌then◌else◌, List, [], ◌∷◌, map, Some, None, refl}
use Rattle.std.specs.Int.{int_wrap}
use Rattle.shape_items.specs.Buffer.{Buffer, new_buffer}
use Rattle.shape_common.specs.Face.{FaceMeaning}
use Rattle.shape_items.specs.Items.{Item, new_item}
use Rattle.shape_buffer.specs.PositionWalks.{positions_mapped}
use Rattle.shape_common.specs.Positions.{zero_position}
use Rattle.shape_common.specs.Wrapping.{◌+ʷ◌, neg_w}
use Rattle.shape_common.specs.declared.general_category.hb_unicode_general_category_t.{hb_unicode_general_category_t}
use Rattle.shape_common.specs.declared.general_category.hb_unicode_general_category_t.TheVariants.{SpaceSeparator, LineSeparator}
use Rattle.shape_common.specs.declared.positions.GlyphPosition.{GlyphPosition}
use Rattle.shape_common.specs.declared.text_types.Direction.{Direction}
use Rattle.shape_common.specs.declared.text_types.Direction.TheVariants.{Invalid, LeftToRight, RightToLeft, TopToBottom}
use Rattle.shape_plan.specs.Worked.Faces.{bare_face}
use Rattle.shape_fallback.specs.Spaces.{is_em_fraction, em_fraction, em_advance, first_glyph, figures, stops, as_wide_as, space_advance}
use Rattle.shape_fallback.specs.Spaces.{space_positioned, is_lone_space, item_spaced, spaces_placed}
use Rattle.shape_fallback.specs.DueSteps.{spaces_step}

-- parts of an em square of 1000 units: EM to EM_6, EM_16, 4_EM_18, and the greatest and least squares
pub record EmParts : Type 0 where
  pub of_1000 : map (em_fraction (pos 1000)) (1 ∷ 2 ∷ 3 ∷ 4 ∷ 5 ∷ 6 ∷ 16 ∷ 17 ∷ [])
      ≡ pos 1000 ∷ pos 500 ∷ pos 333 ∷ pos 250 ∷ pos 200 ∷ pos 167 ∷ pos 63 ∷ pos 222 ∷ []
  pub of_1 : map (em_fraction (pos 1)) (1 ∷ 2 ∷ 3 ∷ 16 ∷ 17 ∷ []) ≡ pos 1 ∷ pos 1 ∷ pos 0 ∷ pos 0 ∷ pos 0 ∷ []
  pub of_8 : map (em_fraction (pos 8)) (16 ∷ 17 ∷ []) ≡ pos 1 ∷ pos 1 ∷ []
  pub of_65535 : map (em_fraction (pos 65535)) (1 ∷ 2 ∷ 16 ∷ 17 ∷ []) ≡ pos 65535 ∷ pos 32768 ∷ pos 4096 ∷ pos 14563 ∷ []
  -- a mirrored square: -333.3 and -62.5 with the half part are rounded towards 0
  pub mirrored : map (em_fraction (negsuc 999)) (1 ∷ 3 ∷ 16 ∷ 17 ∷ []) ≡ negsuc 999 ∷ negsuc 332 ∷ negsuc 61 ∷ negsuc 221 ∷ []
  pub named : map is_em_fraction (0 ∷ 1 ∷ 6 ∷ 7 ∷ 15 ∷ 16 ∷ 17 ∷ 18 ∷ 255 ∷ [])
      ≡ false ∷ true ∷ true ∷ false ∷ false ∷ true ∷ true ∷ false ∷ false ∷ []

em_parts : EmParts
unfolding em_fraction is_em_fraction ◌+ʷ◌ int_wrap
em_parts = record { of_1000 = refl; of_1 = refl; of_8 = refl; of_65535 = refl; mirrored = refl; named = refl }

-- a face of 1000 units in which some characters have the glyph of their own number, as wide as that
abbrev pub worked_face : (ℕ → Bool) → FaceMeaning
worked_face has = record bare_face { nominal_glyph = λ c. if has c then Some (record { 0 = c }) else None; h_advance = λ g. pos g.0 }

-- one with vertical advances of -7
abbrev pub tall_face : (ℕ → Bool) → FaceMeaning
tall_face has = record (worked_face has) { v_advance = λ g. negsuc 6 }

pub record FirstGlyphs : Type 0 where
  pub seven_alone : first_glyph (worked_face (λ c. c == 0x37)) figures ≡ Some (record { 0 = 0x37 })
  pub zero_first : first_glyph (worked_face (λ c. true)) figures ≡ Some (record { 0 = 0x30 })
  pub nine_last : first_glyph (worked_face (λ c. c == 0x39)) figures ≡ Some (record { 0 = 0x39 })
  pub no_figure : first_glyph (worked_face (λ c. c == 0x2F)) figures ≡ None
  pub colon_is_none : first_glyph (worked_face (λ c. c == 0x3A)) figures ≡ None
  pub stop_first : first_glyph (worked_face (λ c. true)) stops ≡ Some (record { 0 = 0x2E })
  pub comma_else : first_glyph (worked_face (λ c. c == 0x2C)) stops ≡ Some (record { 0 = 0x2C })
  pub neither : first_glyph (worked_face (λ c. c == 0x2D)) stops ≡ None

first_glyphs : FirstGlyphs
unfolding first_glyph
first_glyphs =
    record {
      seven_alone = refl;
      zero_first = refl;
      nine_last = refl;
      no_figure = refl;
      colon_is_none = refl;
      stop_first = refl;
      comma_else = refl;
      neither = refl;
    }

-- advances of spaces that were 251 wide, or -251 high
pub record SpaceAdvances : Type 0 where
  pub em_spaces : map (λ t. space_advance (worked_face (λ c. false)) true t (pos 251)) (3 ∷ 16 ∷ 17 ∷ []) ≡ pos 333 ∷ pos 63 ∷ pos 222 ∷ []
  pub em_spaces_down : map (λ t. space_advance (worked_face (λ c. false)) false t (negsuc 250)) (3 ∷ 16 ∷ 17 ∷ [])
      ≡ negsuc 332 ∷ negsuc 62 ∷ negsuc 221 ∷ []
  -- by the width along a line, and by the height down one
  pub by_the_width : space_advance (record (worked_face (λ c. false)) { x_scale = pos 300; y_scale = pos 600 }) true 3 (pos 251) ≡ pos 100
  pub by_the_height : space_advance (record (worked_face (λ c. false)) { x_scale = pos 300; y_scale = pos 600 }) false 3 (negsuc 250) ≡ negsuc 199
  pub figure : space_advance (worked_face (λ c. c == 0x37)) true 19 (pos 251) ≡ pos 0x37
  pub figure_down : space_advance (tall_face (λ c. c == 0x37)) false 19 (negsuc 250) ≡ negsuc 6
  pub no_figure : space_advance (worked_face (λ c. c == 0x2E)) true 19 (pos 251) ≡ pos 251
  pub punctuation : space_advance (worked_face (λ c. true)) true 20 (pos 251) ≡ pos 0x2E
  pub comma : space_advance (worked_face (λ c. c == 0x2C)) true 20 (pos 251) ≡ pos 0x2C
  pub punctuation_down : space_advance (tall_face (λ c. c == 0x2E)) false 20 (negsuc 250) ≡ negsuc 6
  pub no_punctuation : space_advance (worked_face (λ c. c == 0x37)) true 20 (pos 251) ≡ pos 251
  pub narrow : space_advance (worked_face (λ c. true)) true 21 (pos 251) ≡ pos 125
  pub narrow_down : space_advance (worked_face (λ c. true)) false 21 (negsuc 250) ≡ negsuc 124
  pub others : map (λ t. space_advance (worked_face (λ c. true)) true t (pos 251)) (0 ∷ 7 ∷ 15 ∷ 18 ∷ 22 ∷ 255 ∷ [])
      ≡ pos 251 ∷ pos 251 ∷ pos 251 ∷ pos 251 ∷ pos 251 ∷ pos 251 ∷ []

space_advances : SpaceAdvances
unfolding space_advance is_em_fraction em_fraction em_advance as_wide_as first_glyph neg_w int_wrap ◌+ʷ◌
space_advances =
    record {
      em_spaces = refl;
      em_spaces_down = refl;
      by_the_width = refl;
      by_the_height = refl;
      figure = refl;
      figure_down = refl;
      no_figure = refl;
      punctuation = refl;
      comma = refl;
      punctuation_down = refl;
      no_punctuation = refl;
      narrow = refl;
      narrow_down = refl;
      others = refl;
    }

-- a position of these advances, moved by 5 and 6
abbrev pub worked_position : ℤ → ℤ → GlyphPosition
worked_position x y = record zero_position { x_advance = x; y_advance = y; x_offset = pos 5; y_offset = pos 6 }

-- an item of a category, ligated or not, of a type of space
abbrev pub worked_space : hb_unicode_general_category_t → Bool → ℕ → Item
worked_space category ligated t =
    let item = new_item 0x2004 0 in
    record item { properties = record item.properties { general_category = category; ligated = ligated; space_type = t } }

-- a buffer that runs in a direction, with two spaces
abbrev pub worked_spaces : Direction → ℕ → List GlyphPosition → Buffer
worked_spaces direction scratch ps = record new_buffer {
  items = worked_space SpaceSeparator false 3 ∷ worked_space SpaceSeparator false 21 ∷ [];
  positions = ps;
  direction = direction;
  scratch_flags = record { 0 = scratch };
}

pub record SpacesOfBuffers : Type 0 where
  pub line_separator : item_spaced (worked_face (λ c. false)) true (worked_space LineSeparator false 3) (worked_position (pos 251) (pos 7))
      ≡ worked_position (pos 251) (pos 7)
  pub ligated : item_spaced (worked_face (λ c. false)) true (worked_space SpaceSeparator true 3) (worked_position (pos 251) (pos 7))
      ≡ worked_position (pos 251) (pos 7)
  pub to_the_left : (spaces_placed (worked_face (λ c. false))
      (worked_spaces RightToLeft 4 (worked_position (pos 251) (pos 7) ∷ worked_position (pos 251) (pos 7) ∷ []))).positions
      ≡ worked_position (pos 333) (pos 7) ∷ worked_position (pos 125) (pos 7) ∷ []
  pub down : (spaces_placed (worked_face (λ c. false))
      (worked_spaces TopToBottom 4 (worked_position (pos 251) (pos 7) ∷ worked_position (pos 251) (pos 7) ∷ []))).positions
      ≡ worked_position (pos 251) (negsuc 332) ∷ worked_position (pos 251) (pos 3) ∷ []
  pub no_direction : (spaces_placed (worked_face (λ c. false))
      (worked_spaces Invalid 4 (worked_position (pos 251) (pos 7) ∷ worked_position (pos 251) (pos 7) ∷ []))).positions
      ≡ worked_position (pos 251) (negsuc 332) ∷ worked_position (pos 251) (pos 3) ∷ []
  pub due : (spaces_step (worked_face (λ c. false))
      (worked_spaces LeftToRight 5 (worked_position (pos 251) (pos 7) ∷ worked_position (pos 251) (pos 7) ∷ []))).positions
      ≡ worked_position (pos 333) (pos 7) ∷ worked_position (pos 125) (pos 7) ∷ []
  pub not_due : spaces_step (worked_face (λ c. false))
      (worked_spaces LeftToRight 59 (worked_position (pos 251) (pos 7) ∷ worked_position (pos 251) (pos 7) ∷ []))
      ≡ worked_spaces LeftToRight 59 (worked_position (pos 251) (pos 7) ∷ worked_position (pos 251) (pos 7) ∷ [])

spaces_of_buffers : SpacesOfBuffers
unfolding spaces_step spaces_placed positions_mapped item_spaced is_lone_space space_positioned space_advance is_em_fraction em_fraction
    em_advance neg_w int_wrap ◌+ʷ◌
spaces_of_buffers =
    record { line_separator = refl; ligated = refl; to_the_left = refl; down = refl; no_direction = refl; due = refl; not_due = refl }

pub record WorkedSpaces : Type 0 where
  pub parts : EmParts
  pub glyphs : FirstGlyphs
  pub advances : SpaceAdvances
  pub buffers : SpacesOfBuffers

pub worked_spaces_meet : WorkedSpaces
worked_spaces_meet = record { parts = em_parts; glyphs = first_glyphs; advances = space_advances; buffers = spaces_of_buffers }
