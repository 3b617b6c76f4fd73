-- Forms of letters: the rows by the code charts of Arabic Presentation Forms A and B, and where the glyphs are put.
use Rattle.std.specs.Prelude.{◌≡◌, ◌==◌, ℕ, true, false, Option, Some, None, List, [], ◌∷◌, find, refl}
use Rattle.shape_items.specs.Items.{Item, new_item, new_properties}
use Rattle.arabic_fallback.specs.Forms.{Row, form_in, both_of, formed}
use Rattle.arabic_fallback.specs.declared.forms.Form.TheVariants.{Init, Medi, Fina, Isol}
use Rattle.arabic_fallback.specs.declared.forms.FormGlyphs.{FormGlyphs}
use Rattle.arabic_fallback.specs.declared.seeking.Rule.{Rule}
use Rattle.arabic_fallback.specs.declared.tables.TheConstants.{FORMS}

abbrev pub listed : ℕ → Option Row
listed letter = find (λ (row : Row). row.0 == letter) FORMS

-- beh, of which each form has a character of its own
abbrev pub beh : Row
beh = (0x628, 0xFE91, 0xFE92, 0xFE90, 0xFE8F)

abbrev pub rule : Rule
rule = record { mask = 16; ignores_marks = true }

-- glyph 11 is the form of glyph 1
abbrev pub rows : List FormGlyphs
rows = record { letter = 1; form = record { glyph = 11; class = None } } ∷ []

-- of another class
abbrev pub rows_with_class : List FormGlyphs
rows_with_class =
    record { letter = 1; form = record { glyph = 11; class = Some (record { class = record { 0 = 4 }; attachment = 7 }) } } ∷ []

abbrev pub glyph : ℕ → Item
glyph g = record (new_item 0 0) { glyph_id = g; mask = 16 }

abbrev pub mark : ℕ → Item
mark g = record (glyph g) { properties = record new_properties { glyph_class = record { 0 = 8 } } }

pub record WorkedForms : Type 0 where
  pub hamza_is_isolated : listed 0x621 ≡ Some (0x621, 0, 0, 0, 0xFE80)
  pub alef_ends : listed 0x627 ≡ Some (0x627, 0, 0, 0xFE8E, 0xFE8D)
  pub beh_has_four : listed 0x628 ≡ Some beh
  pub tatweel_has_none : listed 0x640 ≡ None
  pub alef_maksura : listed 0x649 ≡ Some (0x649, 0xFBE8, 0xFBE9, 0xFEF0, 0xFEEF)
  pub farsi_yeh : listed 0x6CC ≡ Some (0x6CC, 0xFBFE, 0xFBFF, 0xFBFD, 0xFBFC)
  pub initial : form_in beh Init ≡ 0xFE91
  pub medial : form_in beh Medi ≡ 0xFE92
  pub final : form_in beh Fina ≡ 0xFE90
  pub isolated : form_in beh Isol ≡ 0xFE8F
  -- a form of the same glyph is none, nor is one of more than 16 bits
  pub same_glyph : both_of 5 5 ≡ None
  pub other_glyph : both_of 5 6 ≡ Some (5, 6)
  pub greatest : both_of 5 0xFFFF ≡ Some (5, 0xFFFF)
  pub too_great : both_of 5 0x10000 ≡ None
  -- a letter for which the form is on; one for which it is off; another letter; a mark
  pub put : (formed rule rows (glyph 1)).glyph_id ≡ 11
  pub substituted : (formed rule rows (glyph 1)).properties.substituted ≡ true
  pub off : (formed rule rows (record (glyph 1) { mask = 32 })).glyph_id ≡ 1
  pub other_letter : (formed rule rows (glyph 2)).glyph_id ≡ 2
  pub other_is_left : (formed rule rows (glyph 2)).properties.substituted ≡ false
  pub mark_stays : (formed rule rows (mark 1)).glyph_id ≡ 1
  -- the class of the face, if it has classes
  pub own_class : (formed rule rows_with_class (glyph 1)).properties.glyph_class.0 ≡ 4
  pub attachment : (formed rule rows_with_class (glyph 1)).properties.mark_attachment_class ≡ 7
  pub class_stays : (formed rule rows (record (glyph 1) { properties = record new_properties { glyph_class = record { 0 = 2 } } })).properties.glyph_class.0 ≡ 2

pub worked_forms : WorkedForms
worked_forms = record {
  hamza_is_isolated = refl;
  alef_ends = refl;
  beh_has_four = refl;
  tatweel_has_none = refl;
  alef_maksura = refl;
  farsi_yeh = refl;
  initial = refl;
  medial = refl;
  final = refl;
  isolated = refl;
  same_glyph = refl;
  other_glyph = refl;
  greatest = refl;
  too_great = refl;
  put = refl;
  substituted = refl;
  off = refl;
  other_letter = refl;
  other_is_left = refl;
  mark_stays = refl;
  own_class = refl;
  attachment = refl;
  class_stays = refl;
}
