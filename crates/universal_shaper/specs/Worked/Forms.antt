-- The forms of whole syllables, and of letters in scripts that join.
use Rattle.std.specs.Prelude.{◌≡◌, ℕ, ◌+◌, Bool, true, false, Some, None, List, [], ◌∷◌, map, replicate, refl}
use Rattle.ucd_bidi.specs.JoiningType.{joining_type}
use Rattle.ucd_bidi.specs.JoiningGroup.{joining_group}
use Rattle.ucd_bidi.specs.JoiningTypeRows.{joining_type_rows}
use Rattle.ucd_bidi.specs.JoiningGroupRows.{joining_group_rows}
use Rattle.ucd_table.specs.Rows.{value_in}
use Rattle.shape_items.specs.Buffer.{Buffer}
use Rattle.shape_items.specs.Items.{Item}
use Rattle.letter_joining.specs.Worked.JoinedText as joining
use Rattle.syllables.specs.UniversalCategories.{B}
use Rattle.syllabic.specs.Worked.Items.{item, buffer}
use Rattle.universal_shaper.specs.Joining.{joined_if, joins}
use Rattle.universal_shaper.specs.Masks.{forms_set_if_any, own_masks}
use Rattle.universal_shaper.specs.declared.masks.FormMasks.{FormMasks}

-- a mask of its own for each form of a syllable
abbrev isol : ℕ
isol = 8

abbrev init : ℕ
init = 16

abbrev medi : ℕ
medi = 32

abbrev fina : ℕ
fina = 64

abbrev masks : FormMasks
masks = record { isol = isol; init = init; medi = medi; fina = fina }

abbrev masks_of : Buffer → List ℕ
masks_of b = map (λ (x : Item). x.mask) b.items

-- the forms of items by the bytes of their syllables
abbrev of_syllables : FormMasks → List ℕ → List ℕ
of_syllables masks bytes = masks_of (forms_set_if_any masks (buffer (map (λ byte. item 0x61 0 B byte) bytes)))

abbrev of_letters : ℕ → List ℕ → List ℕ
of_letters tag text = masks_of (joined_if joining.masks (Some (record { 0 = record { 0 = tag } })) (joining.text text))

-- whether letters of a script join, by its tag
abbrev joins_by : ℕ → Bool
joins_by tag = joins (Some (record { 0 = record { 0 = tag } }))

pub record WorkedFormsOfSyllables : Type 0 where
  -- one syllable, two, three, each with one form over all of its items
  pub alone : of_syllables masks (0x12 ∷ 0x12 ∷ []) ≡ isol ∷ isol ∷ []
  pub two : of_syllables masks (0x12 ∷ 0x22 ∷ 0x22 ∷ []) ≡ init ∷ fina ∷ fina ∷ []
  pub three : of_syllables masks (0x12 ∷ 0x22 ∷ 0x32 ∷ []) ≡ init ∷ medi ∷ fina ∷ []
  -- hieroglyphs (6) have none, nor has what is no cluster (8): they part what stands on both sides
  pub hieroglyph : of_syllables masks (0x12 ∷ 0x26 ∷ 0x32 ∷ []) ≡ isol ∷ 0 ∷ isol ∷ []
  pub no_cluster : of_syllables masks (0x12 ∷ 0x28 ∷ 0x32 ∷ []) ≡ isol ∷ 0 ∷ isol ∷ []
  -- a feature that is on everywhere (8) has no mask of its own; without any nothing is done
  pub everywhere : of_syllables (own_masks masks isol) (0x12 ∷ 0x22 ∷ 0x36 ∷ 0x42 ∷ []) ≡ init ∷ fina ∷ 0 ∷ 0 ∷ []
  pub nowhere : of_syllables (record { isol = 0; init = 0; medi = 0; fina = 0 }) (0x12 ∷ 0x22 ∷ []) ≡ 0 ∷ 0 ∷ []
  -- letters of Adlam, N'Ko and Mongolian join, and none is to be cut off (3); a selector of variants has the form of its letter in
  -- Mongolian; those of Javanese don't join
  pub adlam : of_letters 0x41646C6D (0x1E922 ∷ 0x1E922 ∷ 0x1E922 ∷ []) ≡ joining.init ∷ (joining.medi + 3) ∷ (joining.fina + 3) ∷ []
  pub nko : of_letters 0x4E6B6F6F (0x7CA ∷ 0x7CA ∷ []) ≡ joining.init ∷ (joining.fina + 3) ∷ []
  pub mongolian : of_letters 0x4D6F6E67 (0x1828 ∷ 0x180B ∷ 0x1828 ∷ []) ≡ joining.init ∷ (joining.init + 3) ∷ (joining.fina + 3) ∷ []
  pub javanese : of_letters 0x4A617661 (0x7CA ∷ 0x7CA ∷ []) ≡ 0 ∷ 0 ∷ []
  -- all kinds but these two have forms: ended by a virama (0) or sakot (1), numbers (3, 4), symbols (5), broken ones (7)
  pub kinds : of_syllables masks (0x10 ∷ 0x21 ∷ 0x33 ∷ 0x44 ∷ 0x55 ∷ 0x67 ∷ []) ≡ init ∷ medi ∷ medi ∷ medi ∷ medi ∷ fina ∷ []
  -- a syllable that becomes medial gets that form over its own items alone
  pub medial_span : of_syllables masks (0x12 ∷ 0x22 ∷ 0x32 ∷ 0x46 ∷ []) ≡ init ∷ medi ∷ fina ∷ 0 ∷ []
  -- the form takes the place of another one, and leaves what isn't of a form (1)
  pub in_place : masks_of (forms_set_if_any masks (buffer (record (item 0x61 0 B 0x12) { mask = medi + 1 } ∷ []))) ≡ (isol + 1) ∷ []
  -- one feature alone, of whatever mask
  pub one_feature : of_syllables (record { isol = 1; init = 0; medi = 0; fina = 0 }) (0x12 ∷ []) ≡ 1 ∷ []
  -- HarfBuzz's `has_arabic_joining`: Adlam, Arabic, Chorasmian, Hanifi Rohingya, Mandaic, Manichaean, Mongolian, N'Ko, Old Uyghur,
  -- Phags-pa, Psalter Pahlavi, Sogdian, Syriac; not Tibetan, nor a text of no script
  pub scripts_that_join : map joins_by
      (0x41646C6D ∷ 0x41726162 ∷ 0x43687273 ∷ 0x526F6867 ∷ 0x4D616E64 ∷ 0x4D616E69 ∷ 0x4D6F6E67 ∷ 0x4E6B6F6F ∷ 0x4F756772 ∷ 0x50686167
      ∷ 0x50686C70 ∷ 0x536F6764 ∷ 0x53797263 ∷ [])
      ≡ replicate 13 true
  pub tibetan_joins : joins_by 0x54696274 ≡ false
  pub no_script : joins None ≡ false

pub worked_forms_of_syllables : WorkedFormsOfSyllables
unfolding joining_type joining_group value_in joining_type_rows joining_group_rows
worked_forms_of_syllables = record {
  alone = refl;
  two = refl;
  three = refl;
  hieroglyph = refl;
  no_cluster = refl;
  everywhere = refl;
  nowhere = refl;
  adlam = refl;
  nko = refl;
  mongolian = refl;
  javanese = refl;
  kinds = refl;
  medial_span = refl;
  in_place = refl;
  one_feature = refl;
  scripts_that_join = refl;
  tibetan_joins = refl;
  no_script = refl;
}
