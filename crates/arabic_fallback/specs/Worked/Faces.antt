-- What a face has of the tables: which forms and ligatures it has glyphs for, the class that an engine gives a glyph, and
-- which of two ligatures is made.
use Rattle.std.specs.Prelude.{◌≡◌, ℕ, true, false, Option, Some, None, List, [], ◌∷◌, ◌++◌, map, refl}
use Rattle.shape_common.specs.Face.{FaceMeaning}
use Rattle.shape_common.specs.declared.text_types.GlyphId.{GlyphId}
use Rattle.shape_items.specs.Buffer.{Buffer}
use Rattle.shape_items.specs.Clusters.{merge}
use Rattle.shape_items.specs.Items.{Item, new_properties}
use Rattle.arabic_fallback.specs.Classes.{class_by}
use Rattle.arabic_fallback.specs.Forms.{both_of, form_rows, glyph_of, pair_of}
use Rattle.arabic_fallback.specs.Ligatures.{glyphs_of, ligature_rows, third_of}
use Rattle.arabic_fallback.specs.Replaced.{as_ligature}
use Rattle.arabic_fallback.specs.Seeking.{joins, passes, place_of}
use Rattle.arabic_fallback.specs.Worked.Forms.{beh, rule}
use Rattle.arabic_fallback.specs.Worked.Ligatures.{after, glyph, glyphs, lellah, mark, on_component, zwj, zwnj}
use Rattle.arabic_fallback.specs.declared.forms.Form.TheVariants.{Init, Isol}
use Rattle.arabic_fallback.specs.declared.ligatures.LigatureGlyphs.{LigatureGlyphs}

abbrev pub number : ℕ → Option GlyphId
number glyph = Some (record { 0 = glyph })

-- beh 5 with its initial form 6, lam 7 with alef 8 and their ligature 9; no other form of beh, and a glyph for U+0000
pub record HasLetters (face : FaceMeaning) : Type 0 where
  pub null : face.nominal_glyph 0 ≡ number 1
  pub letter : face.nominal_glyph 0x628 ≡ number 5
  pub initial : face.nominal_glyph 0xFE91 ≡ number 6
  pub isolated : face.nominal_glyph 0xFE8F ≡ None
  pub lam : face.nominal_glyph 0x644 ≡ number 7
  pub alef : face.nominal_glyph 0x627 ≡ number 8
  pub lam_alef : face.nominal_glyph 0xFEFB ≡ number 9

pub record FacesAsked (face : FaceMeaning) : Type 0 where
  pub letter : glyph_of face 0x628 ≡ Some 5
  pub null_is_none : glyph_of face 0 ≡ None
  pub with_a_form : pair_of face Init beh ≡ Some (5, 6)
  pub without_one : pair_of face Isol beh ≡ None
  pub rows_of_forms : form_rows face (λ g. None) Init (beh ∷ []) ≡ record { letter = 5; form = record { glyph = 6; class = None } } ∷ []
  pub two_rows_of_forms : form_rows face (λ g. None) Init (beh ∷ beh ∷ []) ≡ record { letter = 5; form = record { glyph = 6; class = None } }
      ∷ record { letter = 5; form = record { glyph = 6; class = None } } ∷ []
  pub no_rows_of_forms : form_rows face (λ g. None) Isol (beh ∷ []) ≡ []
  pub pair : glyphs_of face (0x644, 0x627, 0, 0xFEFB) ≡ Some (record { first = 7; second = 8; third = None }, 9)
  pub without_a_ligature : glyphs_of face (0x644, 0x627, 0, 0xFE8F) ≡ None
  pub no_third : third_of face 0 ≡ Some None
  pub third : third_of face 0x627 ≡ Some (Some 8)
  pub third_without_glyph : third_of face 0xFE8F ≡ None
  pub rows_of_ligatures : ligature_rows face (λ g. None) ((0x644, 0x627, 0, 0xFE8F) ∷ (0x644, 0x627, 0, 0xFEFB) ∷ [])
      ≡ record { components = record { first = 7; second = 8; third = None }; ligature = record { glyph = 9; class = None } } ∷ []

-- an engine that gives every glyph the class of marks, and the attachment class 7
abbrev pub as_marks : Buffer → Buffer
as_marks b = record b {
  items = map (λ (x : Item).
      record x { properties = record new_properties { glyph_class = record { 0 = 8 }; mark_attachment_class = 7 } }) b.items;
}

-- 1 and 3 make 11; with 4 after them they make 10
abbrev pub short : List LigatureGlyphs
short = record { components = record { first = 1; second = 3; third = None }; ligature = record { glyph = 11; class = None } } ∷ []

pub record WorkedFaces : Type 0 where
  pub faces : (face : FaceMeaning) → HasLetters face → FacesAsked face
  pub letter_of_more_than_16_bits : both_of 0x10000 5 ≡ None
  pub class : class_by true as_marks 5 ≡ Some (record { class = record { 0 = 8 }; attachment = 7 })
  pub no_class : class_by false as_marks 5 ≡ None
  pub first_of_two : glyphs (after rule (short ++ lellah) (glyph 1 0 ∷ glyph 3 1 ∷ glyph 4 2 ∷ [])) ≡ 11 ∷ 4 ∷ []
  pub longer_first : glyphs (after rule (lellah ++ short) (glyph 1 0 ∷ glyph 3 1 ∷ glyph 4 2 ∷ [])) ≡ 10 ∷ []
  pub second_of_two : glyphs (after rule (lellah ++ short) (glyph 1 0 ∷ glyph 3 1 ∷ glyph 2 2 ∷ [])) ≡ 11 ∷ 2 ∷ []
  pub next_place : place_of rule 3 (glyph 1 0 ∷ mark 5 0 ∷ glyph 3 1 ∷ []) 1 ≡ Some 2
  pub no_place : place_of rule 3 (glyph 1 0 ∷ glyph 4 0 ∷ glyph 3 1 ∷ []) 1 ≡ None
  pub zwj_is_passed : passes zwj ≡ true
  pub zwnj_is_not : passes zwnj ≡ false
  pub hidden_is_not : passes (record zwj { properties = record zwj.properties { hidden = true } }) ≡ false
  pub letter_is_not : passes (glyph 1 0) ≡ false
  pub letters_join : joins (glyph 1 0) (glyph 2 1) ≡ true
  pub of_one_component : joins (on_component 7 1) (on_component 8 1) ≡ true
  pub of_two_components : joins (on_component 7 1) (on_component 8 2) ≡ false
  pub letter_with_a_mark_of_another : joins (glyph 1 0) (on_component 8 1) ≡ false
  pub mark_of_another_with_a_letter : joins (on_component 7 1) (glyph 1 0) ≡ false

faces_asked : (face : FaceMeaning) → HasLetters face → FacesAsked face
faces_asked face has = record {
  letter = rw (has.letter) refl;
  null_is_none = refl;
  with_a_form = rw (has.letter, has.initial) refl;
  without_one = rw (has.letter, has.isolated) refl;
  rows_of_forms = rw (has.letter, has.initial) refl;
  two_rows_of_forms = rw (has.letter, has.initial) refl;
  no_rows_of_forms = rw (has.letter, has.isolated) refl;
  pair = rw (has.lam, has.alef, has.lam_alef) refl;
  without_a_ligature = rw (has.lam, has.alef, has.isolated) refl;
  no_third = refl;
  third = rw (has.alef) refl;
  third_without_glyph = rw (has.isolated) refl;
  rows_of_ligatures = rw (has.lam, has.alef, has.isolated, has.lam_alef) refl;
}

pub worked_faces : WorkedFaces
unfolding merge as_ligature
worked_faces = record {
  faces = faces_asked;
  letter_of_more_than_16_bits = refl;
  class = refl;
  no_class = refl;
  first_of_two = refl;
  longer_first = refl;
  second_of_two = refl;
  next_place = refl;
  no_place = refl;
  zwj_is_passed = refl;
  zwnj_is_not = refl;
  hidden_is_not = refl;
  letter_is_not = refl;
  letters_join = refl;
  of_one_component = refl;
  of_two_components = refl;
  letter_with_a_mark_of_another = refl;
  mark_of_another_with_a_letter = refl;
}
