-- Forms of Thai at private characters, worked out by hand from the tables of Windows and Macintosh.
use Rattle.std.specs.Prelude.{◌≡◌, ℕ, true, false, Option, None, Some, List, [], ◌∷◌, map, refl}
use Rattle.shape_common.specs.declared.text_types.hb_tag_t.{hb_tag_t}
use Rattle.shape_common.specs.declared.text_types.Script.{Script}
use Rattle.shape_items.specs.Items.{Item}
use Rattle.script_shapers.specs.ThaiForms.{forms_put, forms_due}
use Rattle.script_shapers.specs.Worked.Hangul.{face}
use Rattle.letter_joining.specs.Worked.JoinedText.{text, masks_of}

-- forms of Windows, and those of Macintosh, of the same characters
abbrev pub windows : List ℕ
windows = 0xF70A ∷ 0xF705 ∷ 0xF713 ∷ 0xF701 ∷ 0xF70F ∷ 0xF718 ∷ 0xF71A ∷ []

abbrev pub macintosh : List ℕ
macintosh = 0xF88B ∷ 0xF88C ∷ 0xF88A ∷ 0xF885 ∷ 0xF89A ∷ 0xF89B ∷ 0xF89D ∷ []

abbrev pub formed : List ℕ → List ℕ → List ℕ
formed glyphs chars = map (λ (x : Item). x.codepoint) (forms_put (face glyphs) (text chars)).items

abbrev pub script : ℕ → Option Script
script tag = Some (record { 0 = record { 0 = tag } })

abbrev pub chosen : ℕ → Option hb_tag_t
chosen tag = Some (record { 0 = tag })

pub record WorkedThaiForms : Type 0 where
  -- a tone mark comes down on a letter, and down to the left on one with an ascender
  pub tone : formed windows (0xE01 ∷ 0xE48 ∷ []) ≡ 0xE01 ∷ 0xF70A ∷ []
  pub tall_tone : formed windows (0xE1B ∷ 0xE48 ∷ []) ≡ 0xE1B ∷ 0xF705 ∷ []
  -- a vowel above goes left there, and a tone mark on it, too; elsewhere both stay
  pub tall_vowel : formed windows (0xE1B ∷ 0xE34 ∷ 0xE48 ∷ []) ≡ 0xE1B ∷ 0xF701 ∷ 0xF713 ∷ []
  pub vowel : formed windows (0xE01 ∷ 0xE34 ∷ 0xE48 ∷ []) ≡ 0xE01 ∷ 0xE34 ∷ 0xE48 ∷ []
  -- a vowel below takes a descender away, or comes down from it or from another one
  pub descender : formed windows (0xE0D ∷ 0xE38 ∷ []) ≡ 0xF70F ∷ 0xE38 ∷ []
  pub strict_descender : formed windows (0xE0E ∷ 0xE38 ∷ []) ≡ 0xE0E ∷ 0xF718 ∷ []
  pub two_below : formed windows (0xE01 ∷ 0xE38 ∷ 0xE3A ∷ []) ≡ 0xE01 ∷ 0xE38 ∷ 0xF71A ∷ []
  pub below_and_tone : formed windows (0xE01 ∷ 0xE38 ∷ 0xE48 ∷ []) ≡ 0xE01 ∷ 0xE38 ∷ 0xF70A ∷ []
  -- without a letter
  pub no_letter : formed windows (0xE48 ∷ 0xE38 ∷ []) ≡ 0xE48 ∷ 0xF718 ∷ []
  pub other_letter : formed windows (0x41 ∷ 0xE48 ∷ []) ≡ 0x41 ∷ 0xE48 ∷ []
  -- the forms of Macintosh if those of Windows are lacking, and none if both are
  pub second : formed macintosh (0xE0D ∷ 0xE38 ∷ 0xE48 ∷ []) ≡ 0xF89A ∷ 0xE38 ∷ 0xF88B ∷ []
  pub first : formed (0xF88B ∷ windows) (0xE01 ∷ 0xE48 ∷ []) ≡ 0xE01 ∷ 0xF70A ∷ []
  pub no_form : formed [] (0xE0D ∷ 0xE38 ∷ 0xE48 ∷ []) ≡ 0xE0D ∷ 0xE38 ∷ 0xE48 ∷ []
  -- a letter and its marks are unsafe to break, up to the last mark
  pub flags : masks_of (forms_put (face []) (text (0xE01 ∷ 0xE34 ∷ 0xE48 ∷ 0xE01 ∷ 0xE48 ∷ []))) ≡ 0 ∷ 3 ∷ 0 ∷ 0 ∷ 0 ∷ []
  -- in Thai alone, and if GSUB has no script of Thai
  pub no_table : forms_due (script 0x54686169) None ≡ true
  pub by_default : forms_due (script 0x54686169) (chosen 0x44464C54) ≡ true
  pub by_small_default : forms_due (script 0x54686169) (chosen 0x64666C74) ≡ true
  pub by_latin : forms_due (script 0x54686169) (chosen 0x6C61746E) ≡ true
  pub own_script : forms_due (script 0x54686169) (chosen 0x74686169) ≡ false
  pub lao : forms_due (script 0x4C616F6F) None ≡ false
  pub no_script : forms_due None None ≡ false

pub worked_thai_forms : WorkedThaiForms
worked_thai_forms = record {
  tone = refl;
  tall_tone = refl;
  tall_vowel = refl;
  vowel = refl;
  descender = refl;
  strict_descender = refl;
  two_below = refl;
  below_and_tone = refl;
  no_letter = refl;
  other_letter = refl;
  second = refl;
  first = refl;
  no_form = refl;
  flags = refl;
  no_table = refl;
  by_default = refl;
  by_small_default = refl;
  by_latin = refl;
  own_script = refl;
  lao = refl;
  no_script = refl;
}
