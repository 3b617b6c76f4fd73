-- Texts from their characters through the pauses, worked out by hand.
use Rattle.std.specs.Prelude.{◌≡◌, ℕ, ◌==◌, ◌+◌, true, false, pos, Option, Some, None, if◌then◌else◌}
use Rattle.std.specs.Prelude.{List, [], ◌∷◌, map, refl}
use Rattle.shape_common.specs.Face.{FaceMeaning}
use Rattle.shape_common.specs.declared.general_category.hb_unicode_general_category_t.TheVariants.{Control}
use Rattle.shape_common.specs.declared.text_types.Script.{Script}
use Rattle.shape_buffer.specs.NoLookups.{no_layout, no_masks}
use Rattle.shape_buffer.specs.Walks.{items_mapped}
use Rattle.shape_items.specs.Buffer.{Buffer}
use Rattle.shape_items.specs.Clusters.{merge}
use Rattle.shape_items.specs.Items.{Item}
use Rattle.syllabic.specs.Worked.Items.{buffer, chars, clusters_of, item}
use Rattle.indic_shaper.specs.Categories.{categorized}
use Rattle.indic_shaper.specs.Consonants.{has_several, letters_placed, placed}
use Rattle.indic_shaper.specs.Cutting.{as_circle, circled, is_new_circle}
use Rattle.indic_shaper.specs.Glyphs.{category, position}
use Rattle.indic_shaper.specs.Pauses.{made_by_pause, ordered_by, settled_by}
use Rattle.indic_shaper.specs.Settling.Syllables.{settled}
use Rattle.indic_shaper.specs.Worked.Initial.{at, facts, joining}
use Rattle.indic_shaper.specs.declared.requests.TheConstants.{BLWF}

-- a face of a dotted circle and the virama of Devanagari
abbrev pub face : FaceMeaning
face = record {
  nominal_glyph = λ c. if c == 0x25CC then Some (record { 0 = 9 }) else if c == 0x94D then Some (record { 0 = 8 }) else None;
  variation_glyph = λ c s. None;
  h_advance = λ g. pos 0;
  v_advance = λ g. pos 0;
  h_origin = λ g. pos 0;
  v_origin = λ g. pos 0;
  extents = λ g. None;
  units_per_em = 1000;
  x_scale = pos 1000;
  y_scale = pos 1000;
  tables = record { gsub = false; gpos = false; morx = false; kerx = false; trak = false };
}

abbrev items_from : ℕ → List ℕ → List Item
items_from n [] = []
items_from n (c ∷ cs) = item c n 0 0 ∷ items_from (n + 1) cs

abbrev text : List ℕ → Buffer
text chars = buffer (items_from 0 chars)

abbrev devanagari : Option Script
devanagari = Some (record { 0 = record { 0 = 0x44657661 } })

-- a pause over an older font of Devanagari, whose lookups make a form below the base of virama (8) and glyph 0
abbrev pausing : ℕ → Buffer → Buffer
pausing n = made_by_pause n face no_layout no_masks (joining BLWF (8 ∷ 0 ∷ [])) devanagari

abbrev bytes : Buffer → List ℕ
bytes b = map (λ (x : Item). x.properties.syllable) b.items

abbrev sorts : List Item → List (ℕ × ℕ)
sorts items = map (λ (x : Item). (category x, position x)) items

pub record WorkedTexts : Type 0 where
  -- KA and sign I: a consonant in a syllable that is no letter, and a sign before it
  pub categories : sorts (categorized (text (0x915 ∷ 0x93F ∷ 0x41 ∷ []))).items ≡ (1, 4) ∷ (7, 2) ∷ (0, 14) ∷ []
  -- 16 times the number of a syllable and its kind: consonants (0), vowels (1), placeholders (2), broken ones (4), others (5)
  pub syllables : bytes (pausing 1 (text (0x915 ∷ 0x93F ∷ 0x905 ∷ 0x902 ∷ 0x2D ∷ 0x93E ∷ 0x25CC ∷ 0x93E ∷ 0x41 ∷ [])))
      ≡ 16 ∷ 16 ∷ 33 ∷ 33 ∷ 50 ∷ 50 ∷ 66 ∷ 66 ∷ 85 ∷ []
  pub broken : bytes (pausing 1 (text (0x93F ∷ []))) ≡ 20 ∷ []
  -- in the middle of a syllable a text isn't broken (3)
  pub marks : map (λ (x : Item). x.mask) (pausing 1 (text (0x915 ∷ 0x93F ∷ 0x915 ∷ []))).items ≡ 0 ∷ 3 ∷ 0 ∷ []
  -- KA and sign I, both pauses
  pub first : chars (pausing 2 (pausing 1 (text (0x915 ∷ 0x93F ∷ [])))).items ≡ 0x93F ∷ 0x915 ∷ []
  pub first_clusters : clusters_of (pausing 2 (pausing 1 (text (0x915 ∷ 0x93F ∷ [])))).items ≡ 1 ∷ 0 ∷ []
  pub last : chars (pausing 3 (pausing 2 (pausing 1 (text (0x915 ∷ 0x93F ∷ []))))).items ≡ 0x93F ∷ 0x915 ∷ []
  pub last_clusters : clusters_of (pausing 3 (pausing 2 (pausing 1 (text (0x915 ∷ 0x93F ∷ []))))).items ≡ 0 ∷ 0 ∷ []
  -- a broken syllable gets a circle, which the sign goes before
  pub circle : chars (pausing 2 (pausing 1 (text (0x93F ∷ [])))).items ≡ 0x93F ∷ 0x25CC ∷ []
  -- other pauses change nothing
  pub none : chars (pausing 4 (pausing 1 (text (0x915 ∷ 0x93F ∷ [])))).items ≡ 0x915 ∷ 0x93F ∷ []
  pub zero : bytes (pausing 0 (text (0x915 ∷ 0x93F ∷ []))) ≡ 0 ∷ 0 ∷ []

pub record WorkedPlaces : Type 0 where
  pub circling : circled ≡ record { kind = 4; category = 11; repha = Some 14 }
  -- a circle that the shaper has put in has no position; one of the text has
  pub new_circles : map is_new_circle (at 0x25CC 0 11 0 ∷ at 0x25CC 0 11 4 ∷ at 0x915 0 1 0 ∷ [])
      ≡ true ∷ false ∷ false ∷ []
  pub circle : sorts (as_circle (at 0x25CC 0 11 0) ∷ []) ≡ (11, 14) ∷ []
  pub control : (as_circle (at 0x25CC 0 11 0)).properties.general_category ≡ Control
  -- a new circle goes to the end, a letter below the base if the font has such a form, and no other letter or sign
  pub places : map (λ (x : Item). position (placed (joining BLWF (0x94D ∷ 0x92F ∷ [])) (facts 0x44657661 false) true x))
      (at 0x25CC 0 11 0 ∷ at 0x92F 0 1 4 ∷ at 0x915 0 1 4 ∷ at 0x92F 0 7 2 ∷ []) ≡ 14 ∷ 8 ∷ 4 ∷ 2 ∷ []
  -- a letter that is alone stays, a circle does not
  pub alone : map (λ (x : Item). position (placed (joining BLWF (0x94D ∷ 0x92F ∷ [])) (facts 0x44657661 false) false x))
      (at 0x25CC 0 11 0 ∷ at 0x92F 0 1 4 ∷ []) ≡ 14 ∷ 4 ∷ []
  -- letters after the first item
  pub several : map has_several ([] ∷ (at 0x92F 0 1 4 ∷ []) ∷ (at 0x92F 0 1 4 ∷ at 0x93F 1 7 2 ∷ [])
      ∷ (at 0x93F 0 7 2 ∷ at 0x25CC 1 11 4 ∷ []) ∷ [])
      ≡ false ∷ false ∷ false ∷ true ∷ []
  pub in_syllable : map position (letters_placed (joining BLWF (0x94D ∷ 0x92F ∷ [])) (facts 0x44657661 false)
      (at 0x92F 0 1 4 ∷ at 0x94D 1 4 8 ∷ at 0x92F 2 1 4 ∷ []))
      ≡ 8 ∷ 8 ∷ 8 ∷ []
  pub in_another : map position (letters_placed (joining BLWF (0x94D ∷ 0x92F ∷ [])) (facts 0x44657661 false)
      (at 0x92F 0 1 4 ∷ at 0x94D 1 4 8 ∷ []))
      ≡ 4 ∷ 8 ∷ []
  -- without a virama nothing is known of letters
  pub no_virama : position (placed (joining BLWF (0 ∷ 0x92F ∷ [])) (record (facts 0x44657661 false) { virama = 0 }) true (at 0x92F 0 1 4))
      ≡ 4
  pub virama_1 : position (placed (joining BLWF (1 ∷ 0x92F ∷ [])) (record (facts 0x44657661 false) { virama = 1 }) true (at 0x92F 0 1 4))
      ≡ 8

pub worked_texts : WorkedTexts
unfolding merge items_mapped ordered_by settled_by settled
worked_texts = record {
  categories = refl;
  syllables = refl;
  broken = refl;
  marks = refl;
  first = refl;
  first_clusters = refl;
  last = refl;
  last_clusters = refl;
  circle = refl;
  none = refl;
  zero = refl;
}

pub worked_places : WorkedPlaces
worked_places = record {
  circling = refl;
  new_circles = refl;
  circle = refl;
  control = refl;
  places = refl;
  alone = refl;
  several = refl;
  in_syllable = refl;
  in_another = refl;
  no_virama = refl;
  virama_1 = refl;
}
